-- One spell of backtracking, as its own call has written it, and the rows where the table is whole.
use Rattle.test_units.proofs.Common.{◌≡◌, ℕ, suc, ◌-◌, ◌<◌, ◌≤◌, ltb, ◌⊎◌, inl, inr, Option, Some, None, ℤ, pos}
use Rattle.test_units.proofs.Common.{sym, ap, subst, arith, IsTrue, IfSome, MatchOption, max}
use Rattle.test_units.proofs.Common.{ThermalUnit, PriceLists, Schedule, IsOnFromTo, IsSameOutside, spell_first}
use Rattle.test_units.proofs.Common.{IsBestDispatch, IsFirstDispatch, HasNoDispatch, IsDispatch, IsLeastSpell}
use Rattle.unit_program.specs.Backs.{IsWritten}
use Rattle.test_units.proofs.Common.{IsSameIn, zero, refl, ◌∙◌, ints, on_in}
use Rattle.test_units.proofs.SpanLaws.{spell_first-is}

module _ (g : ThermalUnit) (π : PriceLists) (periods first last : ℕ) where
  written_by : (a b : Schedule) (c : ℤ) → IsBestDispatch g π periods first last b c →
      IsFirstDispatch g π periods first last b c
      → ((k : ℕ) → first ≤ suc k → suc k ≤ last → IsTrue (on_in g b (suc k))) →
      ((k : ℕ) → (suc k < first) ⊎ (last < suc k) → IsSameIn g a b (suc k)) → IsWritten g π periods first last a b
  written_by a b c best first_of on outside =
      let cost_is : (net : ℤ) → IsLeastSpell g π periods first last net → c ≡ net = λ net least.
      (let low = best.least least.dispatch least.keeps in
      let high = least.least b best.keeps in
      let here = best.cost in
      let there = least.cost in
      omega (arith, ints)) in
      record {
        on = λ t. elim t as (λ t. 1 ≤ t → first ≤ t → t ≤ last → IsTrue (on_in g b t)) [
          | zero ↦ λ one from until. absurd (omega arith)
          | suc k ↦ λ one from until. on k from until
        ];
        best = λ net least. (best.keeps, best.cost ∙ cost_is net least);
        tie = λ net least. rw (cost_is net least) at first_of;
        others = λ t. elim t as (λ t. (t < first) ⊎ (last < t) → IsSameIn g a b t) [
          | zero ↦ λ out. record { on = refl; power = refl; reserve = refl }
          | suc k ↦ λ out. outside k out
        ];
      }

  pub written_best : (n : ℕ) (a b : Schedule) (c : ℤ) → n ≡ max first 1 →
      IsBestDispatch g π periods (spell_first (ltb 0 first) n) last b c
      → IsFirstDispatch g π periods (spell_first (ltb 0 first) n) last b c → IsOnFromTo n last b →
      IsSameOutside n last a b
      → IsWritten g π periods first last a b
  written_best n a b c is best first_of on outside =
      written_by a b c
      (subst (λ (f : ℕ). IsBestDispatch g π periods f last b c) (spell_first-is first n is) best)
      (subst (λ (f : ℕ). IsFirstDispatch g π periods f last b c) (spell_first-is first n is) first_of)
      (λ k from until. on k (omega (arith, from, is)) until)
      (λ k out.
      let beyond : (suc k < n) ⊎ (last < suc k) = elim out [ inl h ↦ inl (omega (arith, h, is)) | inr h ↦ inr h ] in
      record {
        on = outside.on k beyond;
        power = ap pos (outside.power k beyond);
        reserve =
            ap pos (outside.reserve k beyond);
      })

  -- there is a dispatch, so one is answered
  pub written_answer : (n : ℕ) (a b : Schedule) (answer : Option ℤ) → n ≡ max first 1 →
      (net : ℤ) × IsLeastSpell g π periods first last net
      → MatchOption answer (HasNoDispatch g periods (spell_first (ltb 0 first) n) last)
      (IsBestDispatch g π periods (spell_first (ltb 0 first) n) last b)
      → IfSome answer (IsFirstDispatch g π periods (spell_first (ltb 0 first) n) last b)
      → IfSome answer (λ _. IsOnFromTo n last b) → IsSameOutside n last a b → IsWritten g π periods first last a b
  written_answer n a b None is least none first_of on outside =
      absurd (none least.1.dispatch (subst (λ (f : ℕ). IsDispatch g periods f last least.1.dispatch)
      (sym (spell_first-is first n is)) least.1.keeps))
  written_answer n a b (Some c) is least best first_of on outside = written_best n a b c is best first_of on outside
