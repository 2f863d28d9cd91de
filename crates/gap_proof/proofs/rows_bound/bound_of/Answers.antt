use Rattle.gap_proof.proofs.Common.{rules, ◌≡◌, ℕ, ◌-◌, ◌≤◌, ℤ, FitsSigned, List, length, drop, map, refl, sym, ap}
use Rattle.gap_proof.proofs.Common.{subst, ◌∙◌, arith, length-drop, ints, to_z-of_z, length-map, w64, w128, PriceLists}
use Rattle.gap_proof.proofs.Common.{Market, market_of, proposal_of, Proposal, certified_bound, IsRowWithin, IsWeight}
use Rattle.gap_proof.proofs.Common.{AreSums}
use Rattle.gap_proof.proofs.Lemmas.{drop_at, item_of, none_left, row_prices, sums_none, sums_more, height_size}
use Rattle.gap_proof.proofs.Lemmas.{weight_size, slope_sizes, bound_is}
use Rattle.gap_proof.proofs.rows_bound.bound_of.Goals as goal

pub loop-index-init : goal.loop-index-init
loop-index-init c =
    let m = market_of c.args.case.now in
    let ws = c.args.weights.now.items in
    let rows = map proposal_of c.args.rows.now in
    let mapped = length-map c.args.rows.now proposal_of in
    let len = c.clear_slopes.ensures.length in
    let wide = c.requires.work in
    let count = c.requires.weights.count in
    let none = sums_none m c.clear_slopes.new.slopes.items (len ∙ wide)
    (λ j lt. c.clear_slopes.ensures.zeros j (omega (arith, lt, wide))) in
    record {
      sums = rw (none_left ws (length c.args.rows.now) (count ∙ mapped), none_left rows (length c.args.rows.now) mapped)
          none;
      spare = refl;
    }

pub add_weighted_plane_of_row-sums-requires : goal.add_weighted_plane_of_row-sums-requires
add_weighted_plane_of_row-sums-requires c =
    let m = market_of c.args.case.now in
    let ws = c.args.weights.now.items in
    let rows = map proposal_of c.args.rows.now in
    let i = c.loop-index.index in
    let mapped = length-map c.args.rows.now proposal_of in
    let count = c.requires.weights.count in
    let few = c.requires.count in
    let low = c.loop-index-test.true in
    let high = c.loop-index.auto.index in
    let rest = length-drop i rows in
    let left : length (drop i rows) ≤ 10000 = omega (arith, rest, mapped, few) in
    let f : FitsSigned w64 c.get.result.now = search rules in
    let size = item_of IsWeight ws (i - 1) c.get.result.now c.requires.weight_sizes
    (omega (arith, low, high, mapped, count)) c.get.ensures.item in
    let sums = c.loop-index.invariant.sums in
    record {
      row = item_of (IsRowWithin m) rows (i - 1) (proposal_of c.row_at.result.now) c.requires.rows
          (omega (arith, low, high, mapped)) c.row_at.ensures;
      weight = simp to_z-of_z size;
      heights = height_size m (drop i ws) (drop i rows) c.loop-index.sums.height c.loop-index.sums.weight
          c.loop-index.work.items sums left;
      weights = weight_size m (drop i ws) (drop i rows) c.loop-index.sums.height c.loop-index.sums.weight
          c.loop-index.work.items sums left;
      length = sums.same_length;
      slopes = slope_sizes m (drop i ws) (drop i rows) c.loop-index.sums.height c.loop-index.sums.weight
          c.loop-index.work.items sums left;
    }

pub loop-index-preserved : goal.loop-index-preserved
loop-index-preserved c =
    let m = market_of c.args.case.now in
    let ws = c.args.weights.now.items in
    let rows = map proposal_of c.args.rows.now in
    let i = c.loop-index.index in
    let x = c.get.result.now in
    let r = proposal_of c.row_at.result.now in
    let mapped = length-map c.args.rows.now proposal_of in
    let count = c.requires.weights.count in
    let low = c.loop-index-test.true in
    let high = c.loop-index.auto.index in
    let f : FitsSigned w64 c.get.result.now = search rules in
    let size = item_of IsWeight ws (i - 1) c.get.result.now c.requires.weight_sizes
    (omega (arith, low, high, mapped, count)) c.get.ensures.item in
    let row = item_of (IsRowWithin m) rows (i - 1) (proposal_of c.row_at.result.now) c.requires.rows
    (omega (arith, low, high, mapped)) c.row_at.ensures in
    let height = simp to_z-of_z at c.add_weighted_plane_of_row-sums.ensures.height in
    let step = simp to_z-of_z at c.add_weighted_plane_of_row-sums.ensures.step in
    let weight = simp to_z-of_z at c.add_weighted_plane_of_row-sums.ensures.weight in
    let slopes = simp to_z-of_z at c.add_weighted_plane_of_row-sums.ensures.slopes in
    let next = sums_more m (drop i ws) (drop i rows) c.loop-index.sums.height c.loop-index.sums.weight
    c.loop-index.work.items c.loop-index.invariant.sums
    c.get.result.now (proposal_of c.row_at.result.now) c.add_weighted_plane_of_row-sums.result.height
    c.add_weighted_plane_of_row-sums.result.weight
    c.add_weighted_plane_of_row-sums.new.slopes.items
    c.args.case.now.valid row.row size height step weight c.add_weighted_plane_of_row-sums.ensures.length slopes in
    let spare = c.add_weighted_plane_of_row-sums.ensures.spare in
    let held = c.loop-index.invariant.spare in
    record {
      sums = rw (
        drop_at ws i x low (omega (arith, high, mapped, count)) c.get.ensures.item,
        drop_at rows i r low (omega (arith, high, mapped)) c.row_at.ensures,
      ) next;
      spare = spare ∙ held;
    }

-- at the end the sums are those of all rows
all_summed : (m : Market) (ws : List ℤ) (rows : List Proposal) (i : ℕ) (height weight : ℤ) (slopes : List ℤ) →
    AreSums m (drop i ws) (drop i rows) height weight slopes → i ≤ 0 → AreSums m ws rows height weight slopes
all_summed m ws rows i height weight slopes h e =
    let none : i ≡ 0 = omega (arith, e) in
    subst (λ (n : ℕ). AreSums m (drop n ws) (drop n rows) height weight slopes) none h

pub greatest_mean_plane_height-requires : goal.greatest_mean_plane_height-requires
greatest_mean_plane_height-requires c =
    let m = market_of c.args.case.now in
    let ws = c.args.weights.now.items in
    let rows = map proposal_of c.args.rows.now in
    let mapped = length-map c.args.rows.now proposal_of in
    let few = c.requires.count in
    let first = c.requires.from_one in
    let last = c.requires.to_last in
    let left : length (map proposal_of c.args.rows.now) ≤ 10000 = omega (arith, mapped, few) in
    let q = c.ranges.radius in
    let sums = all_summed m ws rows c.loop-index.index c.loop-index.sums.height c.loop-index.sums.weight
    c.loop-index.work.items c.loop-index.invariant.sums c.loop-index-test.false in
    let some = c.requires.weights.some in
    let is = sums.weights in
    let weight = weight_size m ws rows c.loop-index.sums.height c.loop-index.sums.weight c.loop-index.work.items sums
    left in
    let most = weight.at_most in
    record {
      horizon = (item_of (IsRowWithin m) rows (c.args.centre - 1) (proposal_of c.row_at-middle.result.now)
          c.requires.rows (omega (arith, mapped, first, last)) c.row_at-middle.ensures).row.horizon;
      radius = simp to_z-of_z c.requires.radius;
      heights = height_size m ws rows c.loop-index.sums.height c.loop-index.sums.weight c.loop-index.work.items sums
          left;
      weights = record { at_least = omega (arith, ints, some, is); at_most = most };
      length = sums.same_length;
      slopes = slope_sizes m ws rows c.loop-index.sums.height c.loop-index.sums.weight c.loop-index.work.items sums
          left;
    }

pub returns : goal.returns
returns c =
    let m = market_of c.args.case.now in
    let ws = c.args.weights.now.items in
    let rows = map proposal_of c.args.rows.now in
    let q = c.ranges.radius in
    let f : FitsSigned w128 c.greatest_mean_plane_height.result = search rules in
    let sums = all_summed m ws rows c.loop-index.index c.loop-index.sums.height c.loop-index.sums.weight
    c.loop-index.work.items c.loop-index.invariant.sums c.loop-index-test.false in
    let prices = row_prices rows c.args.centre (proposal_of c.row_at-middle.result.now) c.row_at-middle.ensures in
    let e = simp to_z-of_z at c.greatest_mean_plane_height.ensures.value in
    let is = bound_is m ws rows c.loop-index.sums.height c.loop-index.sums.weight c.loop-index.work.items sums
    (proposal_of c.row_at-middle.result.now).prices c.args.radius in
    let bound = e ∙ is ∙ ap (λ (π : PriceLists). certified_bound m rows ws π c.args.radius) prices in
    let wide = c.requires.work in
    let spare = c.clear_slopes.ensures.spare in
    record {
      bound = simp to_z-of_z bound;
      work = sums.same_length ∙ sym wide;
      spare = c.loop-index.invariant.spare ∙ spare;
    }
