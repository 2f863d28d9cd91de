-- What a spell begins with, by the rows that it is read from, and a stop in the first period.
use Rattle.unit_table.proofs.Common.{◌≡◌, ℕ, ◌<◌, ◌≤◌, inl, inr, Option, Some, None, ℤ, pos, ◌≤ℤ◌, [], refl, sym, ◌∙◌}
use Rattle.unit_table.proofs.Common.{arith, ints, ThermalUnit, PriceLists, Schedule, IsSpellAnswer, net_cost}
use Rattle.unit_table.proofs.Common.{spell_cost, StopsAtOnce, HasAtMost, IsEntryAfter}
use Rattle.unit_table.proofs.SumLaws.{sum_from_to-one}

pub at_most_more : (o : Option ℤ) (u v : ℤ) → HasAtMost o u → u ≤ℤ v → HasAtMost o v
at_most_more o u v h low = (h.0, h.1, omega (arith, ints))

module _ (g : ThermalUnit) where
  -- an entry looks at the table below its first period alone
  pub entry_same : (a b : ℕ → Option ℤ) (f last : ℕ) (e : ℤ) → ((l : ℕ) → l < f → a l ≡ b l) →
      IsEntryAfter g a f last e → IsEntryAfter g b f last e
  entry_same a b f last e same (inl h) = inl h
  entry_same a b f last e same (inr h) =
      let first = h.first in
      inr (record {
        before = h.before;
        first = first;
        value = h.value;
        ended = sym (same last (omega arith)) ∙ h.ended;
        gap = h.gap;
        cost = h.cost;
      })

-- ---- a stop in the first period

pub at_once_some : (g : ThermalUnit) (π : PriceLists) (periods : ℕ) → StopsAtOnce g →
    IsSpellAnswer g π periods 0 0 (Some (pos 0))
at_once_some g π periods may =
    let d : Schedule = record { on = []; power = []; reserve = [] } in
    let zero_cost : (d : Schedule) → spell_cost g π 0 0 d ≡ pos 0 = λ d. sum_from_to-one (net_cost g π d) 0 in
    record {
      dispatch = d;
      keeps = record {
        least = λ t one from until. absurd (omega arith);
        greatest = λ t one from until. absurd (omega arith);
        start = λ one. absurd (omega arith);
        enter = λ one. absurd (omega arith);
        ramp_up = λ k from until. absurd (omega arith);
        ramp_down = λ k from until. absurd (omega arith);
        stop = λ inside one. absurd (omega arith);
        leave = λ inside. may.down;
        stop_at_once = λ inside none. may.cap;
        leave_at_once = λ inside none. may.up;
      };
      cost = zero_cost d;
      least = λ d dispatch. (let z = zero_cost d in omega (arith, ints));
    }

pub at_once_none : (g : ThermalUnit) (π : PriceLists) (periods : ℕ) → 1 ≤ periods → (StopsAtOnce g → ⊥) →
    IsSpellAnswer g π periods 0 0 None
at_once_none g π periods some may d dispatch =
    may (record {
      cap = dispatch.stop_at_once some refl;
      down = dispatch.leave some;
      up = dispatch.leave_at_once some refl;
    })
