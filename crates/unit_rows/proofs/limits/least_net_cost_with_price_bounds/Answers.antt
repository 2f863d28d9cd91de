use Rattle.unit_rows.proofs.Common.{rules, ◌≡◌, inl, inr, ◌-◌, pos, length, arith, FitsSigned, w64, signed, to_z-of_z}
use Rattle.unit_rows.proofs.Common.{Point}
use Rattle.unit_rows.proofs.Lemmas.{known_least, has_least, known_more}
use Rattle.unit_rows.proofs.limits.least_net_cost_with_price_bounds.Goals as goal

abbrev none : Point
none = record { at = pos 0; cost = pos 0 }

pub returns-then-price-known-clause-least : goal.returns-then-price-known-clause-least
returns-then-price-known-clause-least c =
    let some = c.requires.some in
    let fits_price : FitsSigned w64 c.args.price = search rules in
    let fits_first : FitsSigned w64 c.args.known.now.first_to = search rules in
    let fits : FitsSigned w64 c.net_cost_of_point-first.result = search rules in
    let low = c.if-price-known.true in
    rw (to_z-of_z w64 c.net_cost_of_point-first.result fits) (known_least c.args.points.now none 0 (omega arith)
    c.args.price
    c.net_cost_of_point-first.result (simp to_z-of_z at c.net_cost_of_point-first.ensures.value)
    (c.requires.known.first c.args.price c.requires.price.at_least (omega signed)))

pub net_cost_of_point-last-requires-clause-point : goal.net_cost_of_point-last-requires-clause-point
net_cost_of_point-last-requires-clause-point c =
    let some = c.requires.some in
    c.requires.points (length c.args.points.now - 1) none (omega arith)

pub returns-then-price-known-2-clause-least : goal.returns-then-price-known-2-clause-least
returns-then-price-known-2-clause-least c =
    let some = c.requires.some in
    let end = length c.args.points.now - 1 in
    let fits_price : FitsSigned w64 c.args.price = search rules in
    let fits_last : FitsSigned w64 c.args.known.now.last_from = search rules in
    let fits : FitsSigned w64 c.net_cost_of_point-last.result = search rules in
    let high = c.if-price-known-2.true in
    rw (to_z-of_z w64 c.net_cost_of_point-last.result fits) (known_least c.args.points.now none end (omega arith)
    c.args.price
    c.net_cost_of_point-last.result (simp to_z-of_z at c.net_cost_of_point-last.ensures.value)
    (c.requires.known.last end c.args.price (omega arith) (omega signed) c.requires.price.at_most))

pub returns-clause-least : goal.returns-clause-least
returns-clause-least c =
    let fits_price : FitsSigned w64 c.args.price = search rules in
    let fits : FitsSigned w64 c.least_net_cost-least.result = search rules in
    simp to_z-of_z (simp to_z-of_z at c.least_net_cost-least.ensures.least)

pub returns-clause-known : goal.returns-clause-known
returns-clause-known c =
    let ps = c.args.points.now in
    let some = c.requires.some in
    let fits_price : FitsSigned w64 c.args.price = search rules in
    let fits_low : FitsSigned w64 c.updated_price_bound_of_end_point-known.result = search rules in
    let fits_high : FitsSigned w64 c.updated_price_bound_of_end_point-known-2.result = search rules in
    let fits_first_to : FitsSigned w64 c.args.known.now.first_to = search rules in
    let fits_last_from : FitsSigned w64 c.args.known.now.last_from = search rules in
    let fits_first : FitsSigned w64 c.net_cost_of_point-first.result = search rules in
    let fits_last : FitsSigned w64 c.net_cost_of_point-last.result = search rules in
    let fits_least : FitsSigned w64 c.least_net_cost-least.result = search rules in
    let all_ = simp to_z-of_z at c.least_net_cost-least.ensures.least in
    let first_is = simp to_z-of_z at c.net_cost_of_point-first.ensures.value in
    let last_is = simp to_z-of_z at c.net_cost_of_point-last.ensures.value in
    let first = simp to_z-of_z at c.updated_price_bound_of_end_point-known.ensures in
    let last = simp to_z-of_z at c.updated_price_bound_of_end_point-known-2.ensures in
    simp to_z-of_z (known_more ps c.requires.ordered c.args.price c.args.known.now.first_to c.args.known.now.last_from
    c.updated_price_bound_of_end_point-known.result c.updated_price_bound_of_end_point-known-2.result c.requires.known
    (elim first [
      | inl z ↦ inl z
      | inr h ↦ inr (
        h.0,
        has_least ps none 0 (omega arith) c.args.price c.net_cost_of_point-first.result
            c.least_net_cost-least.result first_is h.1 all_,
      )
    ])
    (elim last [
      | inl z ↦ inl z
      | inr h ↦ inr (
        h.0,
        λ n end.
            let e : n ≡ length ps - 1 = omega arith in
            rw e (has_least ps none (length ps - 1) (omega arith) c.args.price c.net_cost_of_point-last.result
            c.least_net_cost-least.result last_is h.1 all_),
      )
    ]))

pub bounds-points-0 : goal.bounds-points-0
bounds-points-0 c = c.requires.some

pub net_cost_of_point-first-requires-clause-point : goal.net_cost_of_point-first-requires-clause-point
net_cost_of_point-first-requires-clause-point c = let some = c.requires.some in c.requires.points 0 none (omega arith)

pub returns-then-price-known-clause-bound : goal.returns-then-price-known-clause-bound
returns-then-price-known-clause-bound c =
    rw (to_z-of_z w64 c.net_cost_of_point-first.result (search rules)) c.net_cost_of_point-first.ensures.bound

pub returns-clause-bound : goal.returns-clause-bound
returns-clause-bound c = rw (to_z-of_z w64 c.least_net_cost-least.result (search rules))
    c.least_net_cost-least.ensures.bound

pub returns-then-price-known-2-clause-bound : goal.returns-then-price-known-2-clause-bound
returns-then-price-known-2-clause-bound c =
    rw (to_z-of_z w64 c.net_cost_of_point-last.result (search rules)) c.net_cost_of_point-last.ensures.bound
