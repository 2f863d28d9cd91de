use Rattle.gap_proof.proofs.Common.{rules, ◌-◌, pos, FitsSigned, [], ◌∷◌, map, refl, sym, ap, ◌∙◌, arith, ints}
use Rattle.gap_proof.proofs.Common.{to_z-of_z, length-map, w128, PriceLists, market_of, proposal_of, range_bound}
use Rattle.gap_proof.proofs.Common.{IsRowWithin}
use Rattle.gap_proof.proofs.Lemmas.{one_bound, item_of, row_prices, height_size, slope_sizes, bound_is}
use Rattle.gap_proof.proofs.ranges.bound_by_one_row.Goals as goal

pub plane_sums_of_one_row-sums-requires-clause-row : goal.plane_sums_of_one_row-sums-requires-clause-row
plane_sums_of_one_row-sums-requires-clause-row c =
    let mapped = length-map c.args.rows.now proposal_of in
    let first = c.requires.from_one in
    let last = c.requires.to_last in
    item_of (IsRowWithin (market_of c.args.case.now)) (map proposal_of c.args.rows.now) (c.args.number - 1)
    (proposal_of c.row_at-row.result.now) c.requires.rows (omega (arith, mapped, first, last)) c.row_at-row.ensures

pub greatest_mean_plane_height-bound-requires : goal.greatest_mean_plane_height-bound-requires
greatest_mean_plane_height-bound-requires c =
    let m = market_of c.args.case.now in
    let r = proposal_of c.row_at-row.result.now in
    let mapped = length-map c.args.rows.now proposal_of in
    let first = c.requires.from_one in
    let last = c.requires.to_last in
    let q = c.ranges.radius in
    let sums = c.plane_sums_of_one_row-sums.ensures.sums in
    let is = sums.weights in
    record {
      horizon = (item_of (IsRowWithin m) (map proposal_of c.args.rows.now) (c.args.number - 1) r c.requires.rows
          (omega (arith, mapped, first, last)) c.row_at-row.ensures).row.horizon;
      radius = simp to_z-of_z c.requires.radius;
      heights = height_size m (pos 1 ∷ []) (r ∷ []) c.plane_sums_of_one_row-sums.result.height
          c.plane_sums_of_one_row-sums.result.weight
          c.plane_sums_of_one_row-sums.new.slopes.items sums (omega arith);
      weights = record { at_least = omega (arith, ints, is); at_most = omega (arith, ints, is) };
      length = sums.same_length;
      slopes = slope_sizes m (pos 1 ∷ []) (r ∷ []) c.plane_sums_of_one_row-sums.result.height
          c.plane_sums_of_one_row-sums.result.weight
          c.plane_sums_of_one_row-sums.new.slopes.items sums (omega arith);
    }

pub returns : goal.returns
returns c =
    let m = market_of c.args.case.now in
    let rows = map proposal_of c.args.rows.now in
    let r = proposal_of c.row_at-row.result.now in
    let q = c.ranges.radius in
    let f : FitsSigned w128 c.greatest_mean_plane_height-bound.result = search rules in
    let sums = c.plane_sums_of_one_row-sums.ensures.sums in
    let e = simp to_z-of_z at c.greatest_mean_plane_height-bound.ensures.value in
    let is = bound_is m (pos 1 ∷ []) (r ∷ []) c.plane_sums_of_one_row-sums.result.height
    c.plane_sums_of_one_row-sums.result.weight
    c.plane_sums_of_one_row-sums.new.slopes.items sums r.prices c.args.radius in
    let one = one_bound m rows r.prices c.args.radius c.args.number r c.requires.from_one c.row_at-row.ensures in
    let prices = row_prices rows c.args.number r c.row_at-row.ensures in
    let bound = e ∙ is ∙ one ∙
    ap (λ (π : PriceLists). range_bound m rows π c.args.radius
    (record { first = c.args.number; last = c.args.number })) prices in
    let wide = c.requires.work in
    record {
      first = refl;
      last = refl;
      bound = simp to_z-of_z bound;
      limits = simp to_z-of_z c.greatest_mean_plane_height-bound.ensures.limits;
      work = sums.same_length ∙ sym wide;
      spare = c.plane_sums_of_one_row-sums.ensures.spare;
    }
