use Rattle.gap_proof.proofs.Common.{rules, ◌≡◌, ◌+◌, ◌-◌, pos, FitsSigned, [], ◌∷◌, length, map, refl, sym, ap, ◌∙◌}
use Rattle.gap_proof.proofs.Common.{arith, ints, to_z-of_z, length-map, w128, market_of, proposal_of, prices_of}
use Rattle.gap_proof.proofs.Common.{IsRowWithin, least_bound}
use Rattle.gap_proof.proofs.BackSums.{back_first, back_more, back_height, back_weight, back_slopes, back_some}
use Rattle.gap_proof.proofs.BackSums.{back_value}
use Rattle.gap_proof.proofs.Lemmas.{least_one, least_more, least_from, back_bounds, item_of, height_size, slope_sizes}
use Rattle.gap_proof.proofs.ranges.best_suffix_bound.Goals as goal

pub plane_sums_of_one_row-sums-requires-clause-row : goal.plane_sums_of_one_row-sums-requires-clause-row
plane_sums_of_one_row-sums-requires-clause-row c =
    let mapped = length-map c.args.rows.now proposal_of in
    let some = c.requires.some in
    item_of (IsRowWithin (market_of c.args.case.now)) (map proposal_of c.args.rows.now) (length c.args.rows.now - 1)
    (proposal_of c.row_at.result.now) c.requires.rows (omega (arith, mapped, some)) c.row_at.ensures

pub greatest_mean_plane_height-requires : goal.greatest_mean_plane_height-requires
greatest_mean_plane_height-requires c =
    let m = market_of c.args.case.now in
    let r = proposal_of c.row_at.result.now in
    let q = c.ranges.radius in
    let sums = c.plane_sums_of_one_row-sums.ensures.sums in
    let is = sums.weights in
    record {
      horizon = c.requires.horizon;
      radius = simp to_z-of_z c.requires.radius;
      heights = height_size m (pos 1 ∷ []) (r ∷ []) c.plane_sums_of_one_row-sums.result.height
          c.plane_sums_of_one_row-sums.result.weight
          c.plane_sums_of_one_row-sums.new.slopes.items sums (omega arith);
      weights = record { at_least = omega (arith, ints, is); at_most = omega (arith, ints, is) };
      length = sums.same_length;
      slopes = slope_sizes m (pos 1 ∷ []) (r ∷ []) c.plane_sums_of_one_row-sums.result.height
          c.plane_sums_of_one_row-sums.result.weight
          c.plane_sums_of_one_row-sums.new.slopes.items sums (omega arith);
    }

pub loop-index-init : goal.loop-index-init
loop-index-init c =
    let m = market_of c.args.case.now in
    let rows = map proposal_of c.args.rows.now in
    let n = length c.args.rows.now in
    let π = prices_of c.args.centre.now in
    let q = c.ranges.radius in
    let f : FitsSigned w128 c.greatest_mean_plane_height.result = search rules in
    let mapped = length-map c.args.rows.now proposal_of in
    let some = c.requires.some in
    let first = back_first m rows n (proposal_of c.row_at.result.now) c.plane_sums_of_one_row-sums.result.height
    c.plane_sums_of_one_row-sums.result.weight c.plane_sums_of_one_row-sums.new.slopes.items some (sym mapped)
    c.row_at.ensures
    c.plane_sums_of_one_row-sums.ensures.sums in
    let e = simp to_z-of_z at c.greatest_mean_plane_height.ensures.value in
    let value = back_value m rows n (n - 1) c.plane_sums_of_one_row-sums.result.height
    c.plane_sums_of_one_row-sums.result.weight
    c.plane_sums_of_one_row-sums.new.slopes.items (sym mapped) (omega arith) first π c.args.radius in
    let back : (length c.args.rows.now - 1) + 1 ≡ length c.args.rows.now = omega (arith, some) in
    let least = least_one (back_bounds m rows π c.args.radius n) (n - 1) n c.greatest_mean_plane_height.result
    (sym back)
    (e ∙ value ∙ ap (back_bounds m rows π c.args.radius n) back) in
    record {
      sums = first;
      best = simp to_z-of_z least;
      limit = simp to_z-of_z c.greatest_mean_plane_height.ensures.limits.at_least;
      last = refl;
      spare = c.plane_sums_of_one_row-sums.ensures.spare;
    }

pub add_weighted_plane_of_row-sums-requires : goal.add_weighted_plane_of_row-sums-requires
add_weighted_plane_of_row-sums-requires c =
    let m = market_of c.args.case.now in
    let rows = map proposal_of c.args.rows.now in
    let n = length c.args.rows.now in
    let i = c.loop-index.index in
    let mapped = length-map c.args.rows.now proposal_of in
    let low = c.loop-index-test.true in
    let end = c.loop-index.auto.index in
    let few = c.requires.count in
    let sums = c.loop-index.invariant.sums in
    record {
      row = item_of (IsRowWithin m) rows (i - 1) (proposal_of c.row_at-in-loop-index.result.now) c.requires.rows
          (omega (arith, mapped, low, end)) c.row_at-in-loop-index.ensures;
      weight = record { at_least = omega (arith, ints); at_most = omega (arith, ints) };
      heights = back_height m rows n i c.loop-index.sums.height c.loop-index.sums.weight c.loop-index.work.items
          (sym mapped) (omega (arith, end)) sums few;
      weights = back_weight m rows n i c.loop-index.sums.height c.loop-index.sums.weight c.loop-index.work.items
          (sym mapped) (omega (arith, end)) sums few;
      length = sums.same_length;
      slopes = back_slopes m rows n i c.loop-index.sums.height c.loop-index.sums.weight c.loop-index.work.items
          (sym mapped) (omega (arith, end)) sums few;
    }

pub greatest_mean_plane_height-bound-requires : goal.greatest_mean_plane_height-bound-requires
greatest_mean_plane_height-bound-requires c =
    let m = market_of c.args.case.now in
    let rows = map proposal_of c.args.rows.now in
    let n = length c.args.rows.now in
    let i = c.loop-index.index in
    let q = c.ranges.radius in
    let mapped = length-map c.args.rows.now proposal_of in
    let low = c.loop-index-test.true in
    let end = c.loop-index.auto.index in
    let few = c.requires.count in
    let some = c.requires.some in
    let row = item_of (IsRowWithin m) rows (i - 1) (proposal_of c.row_at-in-loop-index.result.now) c.requires.rows
    (omega (arith, mapped, low, end)) c.row_at-in-loop-index.ensures in
    let next = back_more m rows n i c.loop-index.sums.height c.loop-index.sums.weight c.loop-index.work.items
    (sym mapped) (omega (arith, end)) c.loop-index.invariant.sums
    (proposal_of c.row_at-in-loop-index.result.now) c.add_weighted_plane_of_row-sums.result.height
    c.add_weighted_plane_of_row-sums.result.weight
    c.add_weighted_plane_of_row-sums.new.slopes.items low c.row_at-in-loop-index.ensures c.args.case.now.valid row.row
    c.add_weighted_plane_of_row-sums.ensures.height c.add_weighted_plane_of_row-sums.ensures.step
    c.add_weighted_plane_of_row-sums.ensures.weight
    c.add_weighted_plane_of_row-sums.ensures.length c.add_weighted_plane_of_row-sums.ensures.slopes in
    record {
      horizon = c.requires.horizon;
      radius = simp to_z-of_z c.requires.radius;
      heights = back_height m rows n (i - 1) c.add_weighted_plane_of_row-sums.result.height
          c.add_weighted_plane_of_row-sums.result.weight
          c.add_weighted_plane_of_row-sums.new.slopes.items (sym mapped) (omega (arith, end)) next few;
      weights = back_some m rows n (i - 1) c.add_weighted_plane_of_row-sums.result.height
          c.add_weighted_plane_of_row-sums.result.weight
          c.add_weighted_plane_of_row-sums.new.slopes.items (sym mapped) (omega (arith, end)) next
          (omega (arith, end, low, some)) few;
      length = next.same_length;
      slopes = back_slopes m rows n (i - 1) c.add_weighted_plane_of_row-sums.result.height
          c.add_weighted_plane_of_row-sums.result.weight
          c.add_weighted_plane_of_row-sums.new.slopes.items (sym mapped) (omega (arith, end)) next few;
    }

pub loop-index-preserved : goal.loop-index-preserved
loop-index-preserved c =
    let m = market_of c.args.case.now in
    let rows = map proposal_of c.args.rows.now in
    let n = length c.args.rows.now in
    let π = prices_of c.args.centre.now in
    let i = c.loop-index.index in
    let q = c.ranges.radius in
    let f : FitsSigned w128 c.greatest_mean_plane_height-bound.result = search rules in
    let mapped = length-map c.args.rows.now proposal_of in
    let low = c.loop-index-test.true in
    let end = c.loop-index.auto.index in
    let row = item_of (IsRowWithin m) rows (i - 1) (proposal_of c.row_at-in-loop-index.result.now) c.requires.rows
    (omega (arith, mapped, low, end)) c.row_at-in-loop-index.ensures in
    let next = back_more m rows n i c.loop-index.sums.height c.loop-index.sums.weight c.loop-index.work.items
    (sym mapped) (omega (arith, end)) c.loop-index.invariant.sums
    (proposal_of c.row_at-in-loop-index.result.now) c.add_weighted_plane_of_row-sums.result.height
    c.add_weighted_plane_of_row-sums.result.weight
    c.add_weighted_plane_of_row-sums.new.slopes.items low c.row_at-in-loop-index.ensures c.args.case.now.valid row.row
    c.add_weighted_plane_of_row-sums.ensures.height c.add_weighted_plane_of_row-sums.ensures.step
    c.add_weighted_plane_of_row-sums.ensures.weight
    c.add_weighted_plane_of_row-sums.ensures.length c.add_weighted_plane_of_row-sums.ensures.slopes in
    let e = simp to_z-of_z at c.greatest_mean_plane_height-bound.ensures.value in
    let value = back_value m rows n (i - 1) c.add_weighted_plane_of_row-sums.result.height
    c.add_weighted_plane_of_row-sums.result.weight
    c.add_weighted_plane_of_row-sums.new.slopes.items (sym mapped) (omega (arith, end)) next π c.args.radius in
    let taken = simp to_z-of_z at c.range_of_lesser_bound-best.ensures.taken in
    let kept = simp to_z-of_z at c.range_of_lesser_bound-best.ensures.kept in
    let known = simp to_z-of_z at c.loop-index.invariant.best in
    let least = least_more (back_bounds m rows π c.args.radius n) i n c.loop-index.best.first
    c.range_of_lesser_bound-best.result.first
    c.loop-index.best.bound c.greatest_mean_plane_height-bound.result c.range_of_lesser_bound-best.result.bound low
    known
    (e ∙ value) taken
    kept in
    let bounded = c.loop-index.invariant.limit in
    let limit = least_from least_bound c.loop-index.best.bound c.greatest_mean_plane_height-bound.result
    c.range_of_lesser_bound-best.result.bound
    c.loop-index.best.first c.range_of_lesser_bound-best.result.first ((i - 1) + 1) bounded
    c.greatest_mean_plane_height-bound.ensures.limits.at_least taken kept in
    let last = c.range_of_lesser_bound-best.ensures.last in
    let spare = c.add_weighted_plane_of_row-sums.ensures.spare in
    record {
      sums = next;
      best = simp to_z-of_z least;
      limit = limit;
      last = last ∙ c.loop-index.invariant.last;
      spare = spare ∙ c.loop-index.invariant.spare;
    }

pub returns : goal.returns
unfolding back_bounds
returns c =
    let q = c.ranges.radius in
    let wide = c.requires.work in
    let known = simp to_z-of_z at c.loop-index.invariant.best in
    let test = c.loop-index-test.false in
    let from = known.from in
    record {
      from_one = omega (arith, from);
      to_last = known.to;
      last = c.loop-index.invariant.last;
      bound = known.is;
      least = λ j low high. known.least j (omega (arith, low, test)) high;
      earlier = λ j low below. known.earlier j (omega (arith, low, test)) below;
      least_limit = c.loop-index.invariant.limit;
      work = c.loop-index.invariant.sums.same_length ∙ sym wide;
      spare = c.loop-index.invariant.spare;
    }
