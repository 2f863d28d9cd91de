use Rattle.gap_proof.proofs.Common.{suc, ◌<◌, ℤ, pos, ◌*ℤ◌, map, take, length, ap}
use Rattle.gap_proof.proofs.Common.{arith, ints, total, power_in, reserve_in}
use Rattle.gap_proof.proofs.Common.{mul-add, WeighedSchedule}
use Rattle.plain_lists.proofs.ListLaws.{item_of}
use Rattle.gap_proof.specs.Mixtures.{entry_of}
use Rattle.gap_proof.proofs.MixtureSumLaws.{entry_at, total_more, weight_of, one_weight, share_limit}
use Rattle.gap_proof.proofs.mixture_sums.weighted_output_of_entries.Goals as goal

pub weighted_output_with_entry-given-requires-clause-index : goal.weighted_output_with_entry-given-requires-clause-index
weighted_output_with_entry-given-requires-clause-index c =
    item_of (λ (e : WeighedSchedule). c.args.index < length e.schedule.on) (map entry_of c.args.entries.now)
    c.loop-entry.entry-index (entry_of c.entry-item.result) c.requires.index
    (entry_at c.args.entries.now c.loop-entry.entry-index c.entry-item.result c.loop-entry-test.true c.entry-item.is)

pub weighted_output_with_entry-given-requires-clause-weight :
    goal.weighted_output_with_entry-given-requires-clause-weight
weighted_output_with_entry-given-requires-clause-weight c =
    let at = entry_at c.args.entries.now c.loop-entry.entry-index c.entry-item.result c.loop-entry-test.true
    c.entry-item.is in
    let one = one_weight c.loop-entry.entry-index (map entry_of c.args.entries.now) (entry_of c.entry-item.result)
    c.requires.weights.from_zero at in
    let a = one.at_least in
    let b = one.at_most in
    let whole = c.requires.weights.whole in
    record { at_least = a; at_most = omega (arith, ints, b, whole) }

pub weighted_output_with_entry-given-requires-clause-power : goal.weighted_output_with_entry-given-requires-clause-power
weighted_output_with_entry-given-requires-clause-power c =
    let share = share_limit 4294967296 c.loop-entry.entry-index (map entry_of c.args.entries.now) c.requires.weights in
    let a = c.loop-entry.invariant.power_limit.at_least in
    let b = c.loop-entry.invariant.power_limit.at_most in
    let d = share.at_most in
    record { at_least = omega (arith, ints, a); at_most = omega (arith, ints, b, d) }

pub weighted_output_with_entry-given-requires-clause-reserve :
    goal.weighted_output_with_entry-given-requires-clause-reserve
weighted_output_with_entry-given-requires-clause-reserve c =
    let share = share_limit 4294967296 c.loop-entry.entry-index (map entry_of c.args.entries.now) c.requires.weights in
    let a = c.loop-entry.invariant.reserve_limit.at_least in
    let b = c.loop-entry.invariant.reserve_limit.at_most in
    let d = share.at_most in
    record { at_least = omega (arith, ints, a); at_most = omega (arith, ints, b, d) }

pub loop-entry-preserved : goal.loop-entry-preserved
loop-entry-preserved c =
    let es = map entry_of c.args.entries.now in
    let i = c.loop-entry.entry-index in
    let k = c.args.index in
    let x = entry_of c.entry-item.result in
    let at = entry_at c.args.entries.now i c.entry-item.result c.loop-entry-test.true c.entry-item.is in
    let called = c.weighted_output_with_entry-given.ensures in
    let powers = total_more (λ (e : WeighedSchedule). e.weight *ℤ power_in e.schedule (suc k)) es i x at in
    let reserves = total_more (λ (e : WeighedSchedule). e.weight *ℤ reserve_in e.schedule (suc k)) es i x at in
    let weights = total_more weight_of es i x at in
    let scaled = ap (λ (z : ℤ). pos 4294967296 *ℤ z) weights in
    let apart = mul-add (pos 4294967296) (total (map weight_of (take i es))) x.weight in
    let p = called.power in
    let q = called.reserve in
    let a = called.power_limit.at_least in
    let b = called.power_limit.at_most in
    let d = called.reserve_limit.at_least in
    let e = called.reserve_limit.at_most in
    let r = c.loop-entry.invariant.power_limit.at_least in
    let s = c.loop-entry.invariant.power_limit.at_most in
    let t = c.loop-entry.invariant.reserve_limit.at_least in
    let u = c.loop-entry.invariant.reserve_limit.at_most in
    record {
      power = omega (arith, ints, powers, p);
      reserve = omega (arith, ints, reserves, q);
      power_limit = record { at_least = omega (arith, ints, a, r); at_most = omega (arith, ints, b, s, scaled, apart) };
      reserve_limit = record {
        at_least = omega (arith, ints, d, t);
        at_most =
            omega (arith, ints, e, u, scaled, apart);
      };
    }
