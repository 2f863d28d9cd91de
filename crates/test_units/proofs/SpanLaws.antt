-- The spells from one first period on, as far as the window goes.
use Rattle.test_units.proofs.Common.{◌≡◌, ℕ, zero, suc, ◌<◌, ◌≤◌, true, false, ltb, inl, inr, Option, None, ℤ, List}
use Rattle.test_units.proofs.Common.{length, refl, subst, arith, IsTrue, max, ints, cases_lt, ThermalUnit, PriceLists}
use Rattle.test_units.proofs.Common.{entry_of, spell_first, IsSpellAnswer, Ended, on_time, IsSpell, net_at, AreWithin}
use Rattle.test_units.proofs.Common.{IsAdded, IsOpenUntil}
use Rattle.std.proofs.lemmas.Bool.Decides.{nat_tests}

on_time-at_most : (g : ThermalUnit) (first last until : ℕ) → last ≤ until → on_time g first last ≤ on_time g first until
on_time-at_most g zero last until low = omega (arith, low)
on_time-at_most g (suc k) last until low = omega (arith, low)

module _ (g : ThermalUnit) (periods first until : ℕ) (horizon : periods ≡ length g.window)
    (span : IsOpenUntil g first until) where
  pub spell_within : (last : ℕ) → (first ≡ 0 → IsTrue g.on0) → first ≤ last → last ≤ until →
      (last < periods → g.min_up ≤ on_time g first last) → IsSpell g periods first last
  spell_within last goes_on order low min_up =
      record {
        order = order;
        end = omega (arith, low, horizon);
        goes_on = goes_on;
        marks = λ t one from until mark. span.marks t one from (omega (arith, until, low)) mark;
        min_up = min_up;
      }

  -- a later one would have a period marked `MustOff`
  pub no_spell_after : (last : ℕ) → until < last → IsSpell g periods first last → ⊥
  no_spell_after last above spell =
      spell.marks (suc until) (omega arith) span.from (omega (arith, above)) (span.next (omega (arith, above, horizon)))

  -- where the longest one is too short, each is
  pub none_long_enough : until < periods → on_time g first until < g.min_up → (last : ℕ) →
      IsSpell g periods first last → ⊥
  none_long_enough inside short last spell = elim (cases_lt until last) [
    | inl above ↦ no_spell_after last above spell
    | inr low ↦
        let longer = on_time-at_most g first last until low in
        let up = spell.min_up (omega (arith, low, inside)) in
        omega (arith, longer, up, short)
  ]

-- so no spell is added
pub added_none : (g : ThermalUnit) (π : PriceLists) (first before : ℕ) (e : ℤ) (rows : List (Option Ended)) →
    ((last : ℕ) → 1 ≤ last → IsSpell g (length π.energy) first last → ⊥) → AreWithin rows
    → IsAdded g π first before e rows rows
added_none g π first before e rows no_spell within = record {
  nets = λ _. None;
  none = refl;
  right = λ l one spell. absurd (no_spell l one spell);
  update = record {
    same = λ l low. refl;
    keeps = λ l v here. (v, here, omega (arith, ints));
    adds = λ l c spell net. cc;
    takes = λ l c spell net is. cc;
    sound = λ l v here. inl (here, refl, refl);
  };
  within = within;
}

-- the first period as definitions count it is the one that the program counts
pub spell_first-is : (first n : ℕ) → n ≡ max first 1 → spell_first (ltb 0 first) n ≡ first
spell_first-is first n is = elim (ltb 0 first) as (λ b. ltb 0 first ≡ b → spell_first b n ≡ first) [
  | true ↦ λ test. (let some : 0 < first = grind (arith, nat_tests) in omega (arith, is, some))
  | false ↦ λ test. (let none : first ≤ 0 = grind (arith, nat_tests) in omega (arith, none))
] refl

-- what a pass over the prices tells of each spell of the horizon
pub answers_at : (g : ThermalUnit) (π : PriceLists) (periods first n : ℕ) (costs : List (Option ℤ)) → n ≡ max first 1
    → ((l : ℕ) → n ≤ l → l ≤ periods → IsSpellAnswer g π periods (spell_first (ltb 0 first) n) l (entry_of costs l))
    → (l : ℕ) → 1 ≤ l → IsSpell g periods first l → IsSpellAnswer g π periods first l (net_at costs l)
answers_at g π periods first n costs is told zero one spell = absurd (omega (arith, one))
answers_at g π periods first n costs is told (suc k) one spell =
    subst (λ (f : ℕ). IsSpellAnswer g π periods f (suc k) (entry_of costs (suc k))) (spell_first-is first n is)
    (told (suc k) (omega (arith, is)) spell.end)
