-- A running spell begun, and none.
use Rattle.unit_table.proofs.Common.{IsBegun, ◌≢◌}
use Rattle.unit_table.proofs.Common.{◌≡◌, ℕ, suc, ◌+◌, ◌-◌, ◌*◌, inl, inr, Option, Some, None, ℤ, pos}
use Rattle.unit_table.proofs.Common.{refl, sym, ap, ◌∙◌, subst, arith, IsTrue, IsFalse, ints}
use Rattle.unit_table.proofs.Common.{cases_eq, MustOff, ThermalUnit, PriceLists, Schedule, mark_in, IsFrontier}
use Rattle.unit_table.proofs.Common.{IsWithinTimes, Going, IsRunningSpell, HasStandIn, AreRunningSpells}
use Rattle.unit_table.proofs.Common.{IsEntry, IsLeastEntry}
use Rattle.unit_table.proofs.StandInLaws.{start_begun}

-- ---- a start

module _ (g : ThermalUnit) (π : PriceLists) (limits : ℕ → ℤ) (ends : ℕ → Option ℤ) (t i : ℕ) (z : i ≡ suc t)
    (live live' : ℕ → Option Going) (last : ℕ) (e : ℤ) (r : Going) (here : live' i ≡ Some r)
    (begun : IsBegun g i last e r) (others : (f : ℕ) → f ≢ i → live' f ≡ live f) (within : IsWithinTimes (2 * t + 3) e)
    (least : IsLeastEntry g ends (suc t) last e) where
  begun_spell : IsRunningSpell g π ends t (suc t) r
  begun_spell =
      let k : i - 1 ≡ t = omega arith in
      record {
        entry = rw begun.cost (subst (λ (b : ℕ). IsLeastEntry g ends (suc t) b e) (sym begun.before) least);
        frontier = rw z at (subst (λ (u : ℕ). IsFrontier g π i u r.function) k (begun.frontier π));
        may = record { goes_on = λ none. absurd (omega arith); marks = λ m one from until mark. absurd (omega arith) };
        order = omega arith;
        within = record { at_least = omega (arith, ints); at_most = omega (arith, ints) };
      }

  pub started : AreRunningSpells g π limits ends live t (suc t) → AreRunningSpells g π limits ends live' t (suc (suc t))
  started now = start_begun g π limits ends t live live' now r (cc)
      (λ f other. others f (λ y. other (y ∙ z))) begun_spell

-- ---- before the horizon

entry_zero : (g : ThermalUnit) (ends : ℕ → Option ℤ) (e : ℤ) → IsEntry g ends 0 e → e ≡ pos 0
entry_zero g ends e entry = elim (entry.1) [
  | inl h ↦ h.1
  | inr h ↦ absurd (omega arith)
]

module _ (g : ThermalUnit) (π : PriceLists) (limits : ℕ → ℤ) (ends : ℕ → Option ℤ) (live : ℕ → Option Going)
    (off : (f : ℕ) → live f ≡ None) where
  pub none_goes_on : IsFalse g.on0 → AreRunningSpells g π limits ends live 0 1
  none_goes_on off0 = record {
    right = λ f r is. (let none = off f in cc);
    all = λ f e d low may entry run under. (let on = may.goes_on (omega arith) in cc);
  }

  module _ (on0 : IsTrue g.on0) (live' : ℕ → Option Going) (r : Going) (here : live' 0 ≡ Some r)
      (begun : IsBegun g 0 0 (pos 0) r) (others : (f : ℕ) → f ≢ 0 → live' f ≡ live f) where
    front : IsFrontier g π 0 0 r.function
    front = let k : 0 - 1 ≡ 0 = omega arith in subst (λ (u : ℕ). IsFrontier g π 0 u r.function) k (begun.frontier π)

    running_spell : IsRunningSpell g π ends 0 0 r
    running_spell = record {
      entry = record {
        entry = inl (refl, begun.cost);
        least = λ d entry. (let z = entry_zero g ends d entry in omega (arith, ints));
        earliest = λ k entry. omega arith;
      };
      frontier = front;
      may = record { goes_on = λ none. on0; marks = λ m one from until mark. absurd (omega arith) };
      order = omega arith;
      within = record { at_least = omega (arith, ints); at_most = omega (arith, ints) };
    }

    stand_in : (e : ℤ) (d : Schedule) → IsEntry g ends 0 e → HasStandIn g π live' 0 0 e d
    stand_in e d entry =
        let v = front.complete d (λ k from until. absurd (omega arith)) in
        let z = entry_zero g ends e entry in
        record {
          other = 0;
          going = r;
          value = v.0;
          on = here;
          there = v.1;
          cheap = omega (arith, ints);
          later = inl (omega arith);
          long = λ l above up. up;
          begun = inl (omega arith);
        }

    pub one_goes_on : AreRunningSpells g π limits ends live' 0 1
    one_goes_on = record {
      right = λ f x is. elim (cases_eq f 0) [
        | inl z ↦
            let same : r ≡ x = (let k = ap live' z in cc) in (
              omega arith,
              rw z (subst (λ (x : Going). IsRunningSpell g π ends 0 0 x) same running_spell),
            )
        | inr other ↦ (let none = others f other ∙ off f in cc)
      ];
      all = λ f e d low may entry run under.
          let z : 0 ≡ f = omega arith in
          subst (λ (f : ℕ). IsEntry g ends f e → HasStandIn g π live' 0 f e d) z (stand_in e d) entry;
    }

-- ---- none may be on

pub all_stop : (g : ThermalUnit) (π : PriceLists) (limits : ℕ → ℤ) (ends : ℕ → Option ℤ) (live : ℕ →
    Option Going) (t : ℕ) → ((f : ℕ) → live f ≡ None) → mark_in g.window (suc t) ≡ MustOff →
    AreRunningSpells g π limits ends live (suc t) (suc (suc t))
all_stop g π limits ends live t off mark = record {
  right = λ f r is. (let none = off f in cc);
  all = λ f e d low may entry run under. absurd
      (may.marks (suc t) (omega arith) (omega arith) (omega arith) mark);
}
