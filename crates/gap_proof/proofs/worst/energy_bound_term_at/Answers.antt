use Rattle.gap_proof.proofs.Common.{rules, ℤ, ◌-ℤ◌, ◌*ℤ◌, ap, ◌∙◌, FitsSigned, arith, ints, to_z-of_z, w64, w128}
use Rattle.gap_proof.proofs.Common.{IsWithin, signed_product_within, fits_within}
use Rattle.gap_proof.proofs.worst.energy_bound_term_at.Goals as goal

pub overflow_mul-lacking : goal.overflow_mul-lacking
overflow_mul-lacking c =
    let q = c.ranges.price in
    let fw : FitsSigned w64 c.args.lack.weight = search rules in
    let fp : FitsSigned w128 c.args.lack.power = search rules in
    let a : FitsSigned w128 c.from.result = search rules in
    let e = simp to_z-of_z at c.from.ensures in
    let lacking : IsWithin 177000000000000000000000000000000 (c.from.result *ℤ c.args.lack.power) =
    rw e (signed_product_within 10000000 17700000000000000000000000 c.args.price c.args.lack.power c.requires.price
    c.requires.power) in
    let fl = fits_within w128 177000000000000000000000000000000 (c.from.result *ℤ c.args.lack.power) lacking
    (omega arith) in
    simp to_z-of_z fl

pub overflow_mul-flat : goal.overflow_mul-flat
overflow_mul-flat c =
    let q = c.ranges.price in
    let fw : FitsSigned w64 c.args.lack.weight = search rules in
    let fp : FitsSigned w128 c.args.lack.power = search rules in
    let a : FitsSigned w128 c.from.result = search rules in
    let b : FitsSigned w128 c.from-2.result = search rules in
    let d : FitsSigned w128 c.best_earnings_of_renewables_and_bids.result = search rules in
    let e = simp to_z-of_z at c.from.ensures in
    let f = simp to_z-of_z at c.from-2.ensures in
    let wl = c.requires.weight.at_least in
    let wh = c.requires.weight.at_most in
    let many : IsWithin 1000000000000 c.args.lack.weight =
    record { at_least = omega (arith, ints, wl); at_most = wh } in
    let lacking : IsWithin 177000000000000000000000000000000 (c.from.result *ℤ c.args.lack.power) =
    rw e (signed_product_within 10000000 17700000000000000000000000 c.args.price c.args.lack.power c.requires.price
    c.requires.power) in
    let flat : IsWithin 123000000000000000000000000000000
    (c.from-2.result *ℤ c.best_earnings_of_renewables_and_bids.result) =
    rw f (signed_product_within 1000000000000 123000000000000000000 c.args.lack.weight
    c.best_earnings_of_renewables_and_bids.result many
    c.best_earnings_of_renewables_and_bids.ensures.limit) in
    let fl = fits_within w128 177000000000000000000000000000000 (c.from.result *ℤ c.args.lack.power) lacking
    (omega arith) in
    let ff = fits_within w128 123000000000000000000000000000000
    (c.from-2.result *ℤ c.best_earnings_of_renewables_and_bids.result) flat
    (omega arith) in
    simp to_z-of_z ff

pub overflow_sub-result : goal.overflow_sub-result
overflow_sub-result c =
    let q = c.ranges.price in
    let fw : FitsSigned w64 c.args.lack.weight = search rules in
    let fp : FitsSigned w128 c.args.lack.power = search rules in
    let a : FitsSigned w128 c.from.result = search rules in
    let b : FitsSigned w128 c.from-2.result = search rules in
    let d : FitsSigned w128 c.best_earnings_of_renewables_and_bids.result = search rules in
    let e = simp to_z-of_z at c.from.ensures in
    let f = simp to_z-of_z at c.from-2.ensures in
    let wl = c.requires.weight.at_least in
    let wh = c.requires.weight.at_most in
    let many : IsWithin 1000000000000 c.args.lack.weight =
    record { at_least = omega (arith, ints, wl); at_most = wh } in
    let lacking : IsWithin 177000000000000000000000000000000 (c.from.result *ℤ c.args.lack.power) =
    rw e (signed_product_within 10000000 17700000000000000000000000 c.args.price c.args.lack.power c.requires.price
    c.requires.power) in
    let flat : IsWithin 123000000000000000000000000000000
    (c.from-2.result *ℤ c.best_earnings_of_renewables_and_bids.result) =
    rw f (signed_product_within 1000000000000 123000000000000000000 c.args.lack.weight
    c.best_earnings_of_renewables_and_bids.result many
    c.best_earnings_of_renewables_and_bids.ensures.limit) in
    let fl = fits_within w128 177000000000000000000000000000000 (c.from.result *ℤ c.args.lack.power) lacking
    (omega arith) in
    let ff = fits_within w128 123000000000000000000000000000000
    (c.from-2.result *ℤ c.best_earnings_of_renewables_and_bids.result) flat
    (omega arith) in
    let ll = lacking.at_least in
    let lh = lacking.at_most in
    let gl = flat.at_least in
    let gh = flat.at_most in
    let within : IsWithin 300000000000000000000000000000000
    ((c.from.result *ℤ c.args.lack.power) -ℤ (c.from-2.result *ℤ c.best_earnings_of_renewables_and_bids.result)) =
    record { at_least = omega (arith, ints, ll, gh); at_most = omega (arith, ints, lh, gl) } in
    let fits = fits_within w128 300000000000000000000000000000000
    ((c.from.result *ℤ c.args.lack.power) -ℤ (c.from-2.result *ℤ c.best_earnings_of_renewables_and_bids.result)) within
    (omega arith) in
    simp to_z-of_z fits

pub returns-clause-value : goal.returns-clause-value
returns-clause-value c =
    let q = c.ranges.price in
    let fw : FitsSigned w64 c.args.lack.weight = search rules in
    let fp : FitsSigned w128 c.args.lack.power = search rules in
    let a : FitsSigned w128 c.from.result = search rules in
    let b : FitsSigned w128 c.from-2.result = search rules in
    let d : FitsSigned w128 c.best_earnings_of_renewables_and_bids.result = search rules in
    let e = simp to_z-of_z at c.from.ensures in
    let f = simp to_z-of_z at c.from-2.ensures in
    let wl = c.requires.weight.at_least in
    let wh = c.requires.weight.at_most in
    let many : IsWithin 1000000000000 c.args.lack.weight =
    record { at_least = omega (arith, ints, wl); at_most = wh } in
    let lacking : IsWithin 177000000000000000000000000000000 (c.from.result *ℤ c.args.lack.power) =
    rw e (signed_product_within 10000000 17700000000000000000000000 c.args.price c.args.lack.power c.requires.price
    c.requires.power) in
    let flat : IsWithin 123000000000000000000000000000000
    (c.from-2.result *ℤ c.best_earnings_of_renewables_and_bids.result) =
    rw f (signed_product_within 1000000000000 123000000000000000000 c.args.lack.weight
    c.best_earnings_of_renewables_and_bids.result many
    c.best_earnings_of_renewables_and_bids.ensures.limit) in
    let fl = fits_within w128 177000000000000000000000000000000 (c.from.result *ℤ c.args.lack.power) lacking
    (omega arith) in
    let ff = fits_within w128 123000000000000000000000000000000
    (c.from-2.result *ℤ c.best_earnings_of_renewables_and_bids.result) flat
    (omega arith) in
    let ll = lacking.at_least in
    let lh = lacking.at_most in
    let gl = flat.at_least in
    let gh = flat.at_most in
    let within : IsWithin 300000000000000000000000000000000
    ((c.from.result *ℤ c.args.lack.power) -ℤ (c.from-2.result *ℤ c.best_earnings_of_renewables_and_bids.result)) =
    record { at_least = omega (arith, ints, ll, gh); at_most = omega (arith, ints, lh, gl) } in
    let fits = fits_within w128 300000000000000000000000000000000
    ((c.from.result *ℤ c.args.lack.power) -ℤ (c.from-2.result *ℤ c.best_earnings_of_renewables_and_bids.result)) within
    (omega arith) in
    let v = simp to_z-of_z at c.best_earnings_of_renewables_and_bids.ensures.value in
    simp to_z-of_z
    (ap (λ (z : ℤ). (z *ℤ c.args.lack.power) -ℤ (c.from-2.result *ℤ c.best_earnings_of_renewables_and_bids.result)) e
    ∙ ap (λ (z : ℤ). (c.args.price *ℤ c.args.lack.power) -ℤ (z *ℤ c.best_earnings_of_renewables_and_bids.result)) f
    ∙ ap (λ (z : ℤ). (c.args.price *ℤ c.args.lack.power) -ℤ (c.args.lack.weight *ℤ z)) v)

pub returns-clause-limit : goal.returns-clause-limit
returns-clause-limit c =
    let q = c.ranges.price in
    let fw : FitsSigned w64 c.args.lack.weight = search rules in
    let fp : FitsSigned w128 c.args.lack.power = search rules in
    let a : FitsSigned w128 c.from.result = search rules in
    let b : FitsSigned w128 c.from-2.result = search rules in
    let d : FitsSigned w128 c.best_earnings_of_renewables_and_bids.result = search rules in
    let e = simp to_z-of_z at c.from.ensures in
    let f = simp to_z-of_z at c.from-2.ensures in
    let wl = c.requires.weight.at_least in
    let wh = c.requires.weight.at_most in
    let many : IsWithin 1000000000000 c.args.lack.weight =
    record { at_least = omega (arith, ints, wl); at_most = wh } in
    let lacking : IsWithin 177000000000000000000000000000000 (c.from.result *ℤ c.args.lack.power) =
    rw e (signed_product_within 10000000 17700000000000000000000000 c.args.price c.args.lack.power c.requires.price
    c.requires.power) in
    let flat : IsWithin 123000000000000000000000000000000
    (c.from-2.result *ℤ c.best_earnings_of_renewables_and_bids.result) =
    rw f (signed_product_within 1000000000000 123000000000000000000 c.args.lack.weight
    c.best_earnings_of_renewables_and_bids.result many
    c.best_earnings_of_renewables_and_bids.ensures.limit) in
    let fl = fits_within w128 177000000000000000000000000000000 (c.from.result *ℤ c.args.lack.power) lacking
    (omega arith) in
    let ff = fits_within w128 123000000000000000000000000000000
    (c.from-2.result *ℤ c.best_earnings_of_renewables_and_bids.result) flat
    (omega arith) in
    let ll = lacking.at_least in
    let lh = lacking.at_most in
    let gl = flat.at_least in
    let gh = flat.at_most in
    let within : IsWithin 300000000000000000000000000000000
    ((c.from.result *ℤ c.args.lack.power) -ℤ (c.from-2.result *ℤ c.best_earnings_of_renewables_and_bids.result)) =
    record { at_least = omega (arith, ints, ll, gh); at_most = omega (arith, ints, lh, gl) } in
    let fits = fits_within w128 300000000000000000000000000000000
    ((c.from.result *ℤ c.args.lack.power) -ℤ (c.from-2.result *ℤ c.best_earnings_of_renewables_and_bids.result)) within
    (omega arith) in
    simp to_z-of_z within
