-- What a spell writes, and what stays.
use Rattle.unit_program.proofs.Common.{◌≡◌, ℕ, zero, suc, ◌+◌, ◌-◌, ◌<◌, ◌≤◌, ◌⊎◌, inl, inr, ℤ, pos, ◌-ℤ◌, refl}
use Rattle.unit_program.proofs.Common.{sym, ap, ◌∙◌, arith, signed, IsTrue, cases_lt, ThermalUnit, PriceLists}
use Rattle.unit_program.proofs.Common.{Schedule, on_in, power_in, reserve_in, sum_below-same, IsOnFromTo}
use Rattle.unit_program.proofs.Common.{IsSameOutside, IsBestDispatch, IsFirstDispatch, over_min, IsDispatch}
use Rattle.unit_program.proofs.Common.{IsLeastSpell, net_cost, spell_cost, IsIdle, IsSameIn, IsZeroOff, IsWritten}
use Rattle.unit_program.proofs.RunLaws.{from_one}

-- ---- a dispatch that has the same powers and reserves

module _ (g : ThermalUnit) (π : PriceLists) (periods first last : ℕ) (order : first ≤ last) (d e : Schedule)
    (same : (t : ℕ) → 1 ≤ t → first ≤ t → t ≤ last → (power_in e t ≡ power_in d t) × (reserve_in e t ≡ reserve_in d t))
  where
    over-same : (t : ℕ) → first ≤ t → t ≤ last → over_min g e t ≡ over_min g d t
    over-same zero from until = refl
    over-same (suc k) from until = ap (λ (z : ℤ). z -ℤ g.min_power) (same (suc k) (omega arith) from until).0

    reserve-same : (t : ℕ) → first ≤ t → t ≤ last → reserve_in e t ≡ reserve_in d t
    reserve-same zero from until = refl
    reserve-same (suc k) from until = (same (suc k) (omega arith) from until).1

    net-same : (t : ℕ) → first ≤ t → t ≤ last → net_cost g π e t ≡ net_cost g π d t
    net-same zero from until = refl
    net-same (suc k) from until = let r = same (suc k) (omega arith) from until in rw (r.0, r.1)

    pub spell_cost-same : spell_cost g π first last e ≡ spell_cost g π first last d
    spell_cost-same = sum_below-same (suc last - first) (λ k. net_cost g π e (first + k))
        (λ k. net_cost g π d (first + k)) (λ k low. net-same (first + k) (omega arith) (omega arith))

    pub dispatch-same : IsDispatch g periods first last d → IsDispatch g periods first last e
    dispatch-same h =
        let over_first = over-same first (omega arith) order in
        let reserve_first = reserve-same first (omega arith) order in
        let over_last = over-same last order (omega arith) in
        let reserve_last = reserve-same last order (omega arith) in
        record {
          least = λ t one from until. rw (over-same t from until) (h.least t one from until);
          greatest = λ t one from until.
              rw (over-same t from until, reserve-same t from until) (h.greatest t one from until);
          start = λ one. rw (over_first, reserve_first) (h.start one);
          enter = λ one. rw (over_first, reserve_first) (h.enter one);
          ramp_up = λ k from until.
              let a = over-same k from (omega arith) in
              let b = over-same (suc k) (omega arith) until in
              let r = reserve-same (suc k) (omega arith) until in
              let up = h.ramp_up k from until in
              omega signed;
          ramp_down = λ k from until.
              let a = over-same k from (omega arith) in
              let b = over-same (suc k) (omega arith) until in
              let down = h.ramp_down k from until in
              omega signed;
          stop = λ inside one. rw (over_last, reserve_last) (h.stop inside one);
          leave = λ inside. rw over_last (h.leave inside);
          stop_at_once = h.stop_at_once;
          leave_at_once = λ inside none. rw over_last (h.leave_at_once inside none);
        }

    pub first_dispatch-same : (c : ℤ) → IsFirstDispatch g π periods first last d c →
        IsFirstDispatch g π periods first last e c
    first_dispatch-same c h = record {
      power = λ other keeps cost k from until agree. rw (same (suc k) (omega arith) from until).0
          (h.power other keeps cost k from until (λ j above inside.
          agree j above inside ∙ (same (suc j) (omega arith) (omega arith) inside).0));
      reserve = λ other keeps cost agree k from until. rw (same (suc k) (omega arith) from until).1
          (h.reserve other keeps cost (λ j above inside.
          agree j above inside ∙ (same (suc j) (omega arith) above inside).0) k from until);
    }

-- ---- what a spell's own call has written

pub same_in : {g : ThermalUnit} {a : Schedule} {t : ℕ} → IsSameIn g a a t
same_in = record { on = refl; power = refl; reserve = refl }

module _ (g : ThermalUnit) (π : PriceLists) (periods first last : ℕ) where
  -- nothing to write before period 1
  pub written_none : (a : Schedule) → first ≤ last → last ≡ 0 → IsWritten g π periods first last a a
  written_none a order none = record {
    on = λ t one from until. absurd (omega arith);
    best = λ net least. (
      dispatch-same g π periods first last order least.dispatch a (λ t one from until. absurd (omega arith))
          least.keeps,
      spell_cost-same g π periods first last order least.dispatch a (λ t one from until. absurd (omega arith)) ∙
          least.cost,
    );
    tie = λ net least. record {
      power = λ other keeps cost k from until agree. absurd (omega arith);
      reserve = λ other keeps cost agree k from until. absurd (omega arith);
    };
    others = λ t out. same_in;
  }

  -- the first dispatch of least cost
  pub written_first : (a b : Schedule) → (c : ℤ) × IsBestDispatch g π periods first last b c × IsFirstDispatch g π
      periods first last b c → IsOnFromTo first last b → IsSameOutside first last a b →
      IsWritten g π periods first last a b
  written_first a b written on outside =
      let c = written.0 in
      let best = written.1 in
      let cost_is : (net : ℤ) → IsLeastSpell g π periods first last net → c ≡ net = λ net least.
      (let low = best.least least.dispatch least.keeps in
      let high = least.least b best.keeps in
      let here = best.cost in
      let there = least.cost in
      omega signed) in
      record {
        on = from_one (λ t. first ≤ t → t ≤ last → IsTrue (on_in g b t)) on;
        best = λ net least. (best.keeps, best.cost ∙ cost_is net least);
        tie = λ net least. rw (cost_is net least) at written.2;
        others = λ t. elim t as (λ t. (t < first) ⊎ (last < t) → IsSameIn g a b t) [
          | zero ↦ λ out. record { on = refl; power = refl; reserve = refl }
          | suc k ↦ λ out. record
              { on = outside.on k out; power = ap pos (outside.power k out); reserve = ap pos (outside.reserve k out) }
        ];
      }

-- ---- what stays

module _ {g : ThermalUnit} where
  pub same_then : {a b c : Schedule} {t : ℕ} → IsSameIn g a b t → IsSameIn g b c t → IsSameIn g a c t
  same_then h i = record { on = i.on ∙ h.on; power = i.power ∙ h.power; reserve = i.reserve ∙ h.reserve }

  -- what is the same in each period is idle there too
  pub idle_same : (a b : Schedule) (l t : ℕ) → ((k : ℕ) → l < k → k ≤ t → IsSameIn g a b k) → IsIdle g a l t →
      IsIdle g b l t
  idle_same a b l t same idle = record {
    off = λ k above until. (same k above until).on ∙ idle.off k above until;
    power = λ k above until. (same k above until).power ∙ idle.power k above until;
    reserve = λ k above until. (same k above until).reserve ∙ idle.reserve k above until;
  }

  pub idle_part : (a : Schedule) (l m k t : ℕ) → l ≤ m → k ≤ t → IsIdle g a l t → IsIdle g a m k
  idle_part a l m k t from low idle = record {
    off = λ j above until. idle.off j (omega arith) (omega arith);
    power = λ j above until. idle.power j (omega arith) (omega arith);
    reserve = λ j above until. idle.reserve j (omega arith) (omega arith);
  }

  pub zero_off_written : (π : PriceLists) (periods first last : ℕ) (a b : Schedule) →
      IsWritten g π periods first last a b → IsZeroOff g a → IsZeroOff g b
  zero_off_written π periods first last a b written zero_off t one off =
      let elsewhere : ((t < first) ⊎ (last < t)) → (power_in b t ≡ pos 0) × (reserve_in b t ≡ pos 0) = λ out.
      (let same = written.others t out in let z = zero_off t one (sym same.on ∙ off) in
      (same.power ∙ z.0, same.reserve ∙ z.1)) in
      elim (cases_lt t first) [
        | inl below ↦ elsewhere (inl below)
        | inr from ↦ elim (cases_lt last t) [
          | inl above ↦ elsewhere (inr above)
          | inr until ↦ let on = written.on t one from until in cc
        ]
      ]
