use Rattle.gap_proof.proofs.Common.{rules, ◌≡◌, ℕ, ◌+◌, ℤ, ◌+ℤ◌, ◌*ℤ◌, map, take, length}
use Rattle.gap_proof.proofs.Common.{ap, sym, subst, ◌∙◌, FitsSigned, arith, ints, to_z-of_z}
use Rattle.gap_proof.proofs.Common.{w64, w128, IsWithin, fits_within, Thermal, thermal_of}
use Rattle.gap_proof.proofs.Common.{schedule_of, cost_of, IsThermalFeasible, WeighedSchedule, weighed}
use Rattle.std.specs.Int.{cast_signed}
use Rattle.plain_lists.proofs.ListLaws.{item_of}
use Rattle.gap_proof.specs.Mixtures.{entry_of}
use Rattle.gap_proof.proofs.MixtureSumLaws.{IsShare, entry_at, total_more, share_more, share_within}
use Rattle.gap_proof.proofs.mixture_sums.weighted_cost_of_entries.Goals as goal

pub cost_of_schedule-requires-clause-horizon : goal.cost_of_schedule-requires-clause-horizon
cost_of_schedule-requires-clause-horizon c =
    let g = thermal_of c.args.unit.now in
    let T = length c.args.unit.now.window.items in
    let at = entry_at c.args.entries.now c.loop-entry.entry-index c.entry-item.result c.loop-entry-test.true
    c.entry-item.is in
    let feasible = item_of (λ (e : WeighedSchedule). IsThermalFeasible g T e.schedule) (map entry_of c.args.entries.now)
    c.loop-entry.entry-index (entry_of c.entry-item.result) c.requires.feasible at in
    let on = feasible.schedule.on in
    let few = c.requires.horizon in
    omega (arith, on, few)

pub cost_of_schedule-requires-clause-feasible : goal.cost_of_schedule-requires-clause-feasible
cost_of_schedule-requires-clause-feasible c =
    let g = thermal_of c.args.unit.now in
    let T = length c.args.unit.now.window.items in
    let at = entry_at c.args.entries.now c.loop-entry.entry-index c.entry-item.result c.loop-entry-test.true
    c.entry-item.is in
    let feasible = item_of (λ (e : WeighedSchedule). IsThermalFeasible g T e.schedule) (map entry_of c.args.entries.now)
    c.loop-entry.entry-index (entry_of c.entry-item.result) c.requires.feasible at in
    subst (λ (n : ℕ). IsThermalFeasible g n (schedule_of c.entry-item.result.response)) (sym feasible.schedule.on)
    feasible

pub overflow_add-sum : goal.overflow_add-sum
overflow_add-sum c =
    let es = map entry_of c.args.entries.now in
    let i = c.loop-entry.entry-index in
    let x = entry_of c.entry-item.result in
    let at = entry_at c.args.entries.now i c.entry-item.result c.loop-entry-test.true c.entry-item.is in
    let qw : FitsSigned w64 c.entry-item.result.weight = search rules in
    let qc : FitsSigned w64 c.cost_of_schedule.result = search rules in
    let f : FitsSigned w128 c.wide_product-sum.result = search rules in
    let e = simp to_z-of_z at c.wide_product-sum.ensures in
    let share = share_more 1700000000000000000 i es x (cast_signed w128 c.loop-entry.sum-bits) c.cost_of_schedule.result
    c.requires.weights at c.cost_of_schedule.ensures.limit c.loop-entry.invariant.limit in
    let within : IsWithin 1700000000000000000000000000000
    (cast_signed w128 c.loop-entry.sum-bits +ℤ c.wide_product-sum.result) =
    rw e (share_within 1700000000000000000 (i + 1) es
    (cast_signed w128 c.loop-entry.sum-bits +ℤ (x.weight *ℤ c.cost_of_schedule.result)) c.requires.weights share) in
    let fits = fits_within w128 1700000000000000000000000000000
    (cast_signed w128 c.loop-entry.sum-bits +ℤ c.wide_product-sum.result) within (omega arith) in
    simp to_z-of_z fits

pub loop-entry-preserved : goal.loop-entry-preserved
loop-entry-preserved c =
    let g = thermal_of c.args.unit.now in
    let es = map entry_of c.args.entries.now in
    let i = c.loop-entry.entry-index in
    let x = entry_of c.entry-item.result in
    let at = entry_at c.args.entries.now i c.entry-item.result c.loop-entry-test.true c.entry-item.is in
    let qw : FitsSigned w64 c.entry-item.result.weight = search rules in
    let qc : FitsSigned w64 c.cost_of_schedule.result = search rules in
    let f : FitsSigned w128 c.wide_product-sum.result = search rules in
    let e = simp to_z-of_z at c.wide_product-sum.ensures in
    let so_far : cast_signed w128 c.loop-entry.sum-bits ≡ weighed (cost_of (Thermal g)) (take i es) =
    c.loop-entry.invariant.is in
    let more = total_more (λ (q : WeighedSchedule). q.weight *ℤ cost_of (Thermal g) q.schedule) es i x at in
    let value = c.cost_of_schedule.ensures.value in
    let step : c.wide_product-sum.result ≡ x.weight *ℤ cost_of (Thermal g) x.schedule =
    e ∙ ap (λ (z : ℤ). x.weight *ℤ z) value in
    let sum : cast_signed w128 c.loop-entry.sum-bits +ℤ c.wide_product-sum.result ≡ weighed (cost_of (Thermal g))
    (take (i + 1) es) = omega (arith, ints, so_far, step, more) in
    let share = share_more 1700000000000000000 i es x (cast_signed w128 c.loop-entry.sum-bits) c.cost_of_schedule.result
    c.requires.weights at c.cost_of_schedule.ensures.limit c.loop-entry.invariant.limit in
    let limit : IsShare 1700000000000000000 (i + 1) es
    (cast_signed w128 c.loop-entry.sum-bits +ℤ c.wide_product-sum.result) =
    rw e share in
    let within = share_within 1700000000000000000 (i + 1) es
    (cast_signed w128 c.loop-entry.sum-bits +ℤ c.wide_product-sum.result) c.requires.weights limit in
    let fits = fits_within w128 1700000000000000000000000000000
    (cast_signed w128 c.loop-entry.sum-bits +ℤ c.wide_product-sum.result) within (omega arith) in
    record { is = simp to_z-of_z sum; limit = simp to_z-of_z limit }

pub returns-clause-limit : goal.returns-clause-limit
returns-clause-limit c = share_within 1700000000000000000 c.loop-entry.entry-index (map entry_of c.args.entries.now)
    (cast_signed w128 c.loop-entry.sum-bits) c.requires.weights c.loop-entry.invariant.limit
