use Rattle.uc_mixture.proofs.Common.{rules, ◌≡◌, ℕ, ◌<◌, ◌+◌, ◌*◌, pos, ◌+ℤ◌, Some, List, map, take, length, get_or, ap}
use Rattle.uc_mixture.proofs.Common.{sym, ◌∙◌, FitsSigned, arith, ints, to_z-of_z, slice_get, slice_get-get_or, w64}
use Rattle.uc_mixture.proofs.Common.{w128, cast_signed, fits_within, IsFrom, most_whole, WeighedSchedule, entry_of}
use Rattle.uc_mixture.proofs.Common.{weight_sum}
use Rattle.gap_proof.proofs.MixtureSumLaws.{total_more}
use Rattle.gap_proof.specs.declared.mixtures.Entry.{Entry}
use Rattle.plain_lists.proofs.ListLaws.{item_of, map_item}
use Rattle.uc_mixture.proofs.weights.sum_of_weights.Goals as goal

-- an entry as a weighed schedule
item_at : (xs : List Entry) (i : ℕ) (x : Entry) → i < length xs → x ≡ get_or xs i x →
    slice_get (map entry_of xs) i ≡ Some (entry_of x)
item_at xs i x lt is = map_item entry_of xs i x (slice_get-get_or xs i x lt ∙ ap Some (sym is))

pub loop-entry-preserved : goal.loop-entry-preserved
loop-entry-preserved c =
    let es = map entry_of c.args.entries.now in
    let i = c.loop-entry.entry-index in
    let x = entry_of c.entry-item.result in
    let at = item_at c.args.entries.now i c.entry-item.result c.loop-entry-test.true c.entry-item.is in
    let low = item_of (λ (e : WeighedSchedule). IsFrom (pos 0) most_whole e.weight) es i x c.requires at in
    let qw : FitsSigned w64 c.entry-item.result.weight = search rules in
    let f : FitsSigned w128 c.from-sum.result = search rules in
    let e = simp to_z-of_z at c.from-sum.ensures in
    let so_far : cast_signed w128 c.loop-entry.sum-bits ≡ weight_sum (take i es) = c.loop-entry.invariant.is in
    let more = total_more (λ (q : WeighedSchedule). q.weight) es i x at in
    let a = low.at_least in
    let b = low.at_most in
    let la = c.loop-entry.invariant.limit.at_least in
    let lb = c.loop-entry.invariant.limit.at_most in
    let sum : cast_signed w128 c.loop-entry.sum-bits +ℤ c.from-sum.result ≡ weight_sum (take (i + 1) es) =
    omega (arith, ints, so_far, e, more) in
    let limit : IsFrom (pos 0) (pos (1000000000000 * (i + 1)))
    (cast_signed w128 c.loop-entry.sum-bits +ℤ c.from-sum.result) =
    record { at_least = omega (arith, ints, la, a, e); at_most = omega (arith, ints, lb, b, e) } in
    let fits : FitsSigned w128 (cast_signed w128 c.loop-entry.sum-bits +ℤ c.from-sum.result) =
    fits_within w128 (1000000000000 * (i + 1)) (cast_signed w128 c.loop-entry.sum-bits +ℤ c.from-sum.result)
    (record { at_least = omega (arith, ints, limit.at_least); at_most = limit.at_most }) (omega arith) in
    record { is = simp to_z-of_z sum; limit = simp to_z-of_z limit }
