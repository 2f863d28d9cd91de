-- What backtracking has written from the least end is a best schedule.
use Rattle.unit_program.proofs.Common.{◌≡◌, ℕ, suc, ◌<◌, ◌≤◌, false, ap, Option, Some, ℤ, pos, neg_ℤ, ◌≤ℤ◌}
use Rattle.unit_program.proofs.Common.{length, arith, signed, slice_index, slice_index_or, IsFalse, ThermalUnit}
use Rattle.unit_program.proofs.Common.{Thermal, PriceLists, Schedule, IsSchedule, on_in, power_in, reserve_in, earnings}
use Rattle.unit_program.proofs.Common.{IsBest, IsThermalFeasible, IsLeast, IsOffRun, IsComplete, IsLeastEnd, IsUpTo}
use Rattle.unit_program.proofs.Common.{IsIdle, IsSameIn, IsZeroOff, IsFirstUpTo}
use Rattle.unit_program.proofs.BackLaws.{idle_same, idle_part}
use Rattle.unit_program.proofs.BuildLaws.{right_of}
use Rattle.unit_program.proofs.RunLaws.{from_one}
use Rattle.unit_program.proofs.ShapeLaws.{table_is_least}
use Rattle.unit_program.proofs.BackwardOrder.{not_before}
use Rattle.unit_program.proofs.CostLaws.{earnings-paid}
use Rattle.unit_program.proofs.TieLaws.{no_later_whole}

zero_of : (n : ℕ) → pos n ≡ pos 0 → n ≡ 0
zero_of n h = omega signed

-- a schedule with every period off
module _ (g : ThermalUnit) (a : Schedule) (off : (k : ℕ) → slice_index_or a.on k false ≡ false) (power : (k : ℕ) →
    slice_index a.power k ≡ 0) (reserve : (k : ℕ) → slice_index a.reserve k ≡ 0) where
  pub cleared_idle : (l : ℕ) → IsIdle g a 0 l
  cleared_idle l = record {
    off = λ t above until. from_one (λ t. IsFalse (on_in g a t)) off t above;
    power = λ t above until. from_one (λ t. power_in a t ≡ pos 0) (λ k. ap pos (power k)) t above;
    reserve = λ t above until. from_one (λ t. reserve_in a t ≡ pos 0) (λ k. ap pos (reserve k)) t above;
  }

  pub cleared_zero : IsZeroOff g a
  cleared_zero t one here = let idle = cleared_idle t in
      (idle.power t one (omega arith), idle.reserve t one (omega arith))

module _ (g : ThermalUnit) (π : PriceLists) (periods : ℕ) (horizon : periods ≡ length π.energy) (ends : ℕ → Option ℤ)
    (ramp_up : pos 0 ≤ℤ g.ramp_up) (ramp_down : pos 0 ≤ℤ g.ramp_down)
    (complete : IsComplete g π periods (suc periods) ends) where
  pub best_of : (l : ℕ) (v : ℤ) (a b : Schedule) → IsLeastEnd g periods ends l v → IsIdle g a 0 periods →
      IsUpTo g π periods b l v
      → ((t : ℕ) → l < t → IsSameIn g a b t) → IsZeroOff g b → length b.on ≡ periods → length b.power ≡ periods →
      length b.reserve ≡ periods
      → IsBest (Thermal g) π b × (earnings (Thermal g) π b ≡ neg_ℤ v)
  best_of l v a b least cleared up later zero_off on power reserve =
      let schedule : IsSchedule periods b = record {
        on = on;
        power = power;
        reserve = reserve;
        off = λ k low off. (let z = zero_off (suc k) (omega arith) off in
            (zero_of (slice_index b.power k) z.0, zero_of (slice_index b.reserve k) z.1));
      } in
      let idle = idle_same a b l periods (λ t above until. later t above)
      (idle_part a 0 l periods periods (omega arith) (omega arith) cleared) in
      let r = right_of g π periods b ramp_up ramp_down l v schedule up least.off idle in
      let earned = r.1 in (
        record {
          feasible = rw horizon at r.0;
          greatest = λ other right.
              let s = table_is_least g π ends periods other (rw horizon right) complete in
              let low = least.least s.0 s.3.0 s.3.1 s.2 in
              let under = s.3.2 in
              omega signed;
        },
        earned,
      )

  -- and where the end is the earliest, and all up to it the first of that cost, it is the least of the best ones
  pub least_of : (l : ℕ) (v : ℤ) (a b : Schedule) → IsLeastEnd g periods ends l v →
      ((k : ℕ) → ends k ≡ Some v → IsOffRun g k periods → l ≤ k)
      → IsIdle g a 0 periods → IsUpTo g π periods b l v → IsFirstUpTo g π periods l v b
      → ((t : ℕ) → l < t → IsSameIn g a b t) → IsZeroOff g b → length b.on ≡ periods → length b.power ≡ periods →
      length b.reserve ≡ periods
      → IsLeast (Thermal g) π b
  least_of l v a b least earliest cleared up first later zero_off on power reserve =
      let r = best_of l v a b least cleared up later zero_off on power reserve in
      let best = r.0 in
      let feasible : (o : Schedule) → IsThermalFeasible g (length π.energy) o → IsThermalFeasible g periods o =
      λ o right. rw horizon right in
      let idle = idle_same a b l periods (λ t above until. later t above)
      (idle_part a 0 l periods periods (omega arith) (omega arith) cleared) in
      record {
        best = best;
        first = λ other best_other.
            let right = feasible other best_other.feasible in
            let above = best_other.greatest b best.feasible in
            let below = best.greatest other best_other.feasible in
            let earned = r.1 in
            let paid_is = earnings-paid g π other periods right.schedule in
            not_before periods other b right.schedule (feasible b best.feasible).schedule
            (no_later_whole g π ends periods complete l v least.off.order earliest least.least b idle.off zero_off first
            other right (omega signed));
      }
