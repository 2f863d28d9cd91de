use Rattle.gap_proof.proofs.Common.{rules, ◌≡◌, ◌<◌, ℕ, ℤ, pos, ◌*ℤ◌, List, Some, length, slice_get, ap, sym, subst}
use Rattle.gap_proof.proofs.Common.{◌∙◌, FitsSigned, arith, ints, clamps, to_z-of_z, int_max, w64, All, IsWithin}
use Rattle.gap_proof.proofs.Common.{IsPower, product_within, fits_within, int_at, get_or_from_slice_get}
use Rattle.gap_proof.proofs.Common.{renewable_of}
use Rattle.gap_proof.proofs.flat.best_earnings_of_renewable.Goals as goal

-- what a power earns at a price
earned : (xs : List ℤ) (k : ℕ) (p x : ℤ) → All IsPower xs → k < length xs → IsWithin 10000000 p →
    slice_get xs k ≡ Some x → IsWithin 10000000000000000 (p *ℤ x)
earned xs k p x powers lt price at =
    product_within 10000000 1000000000 p x price
    (subst IsPower (get_or_from_slice_get xs k x (pos 0) at) (powers k (pos 0) lt))

fits : (z : ℤ) → IsWithin 10000000000000000 z → FitsSigned w64 z
fits z h = fits_within w64 10000000000000000 z h (omega arith)

pub overflow_mul-by_least : goal.overflow_mul-by_least
overflow_mul-by_least c =
    let q = c.ranges.price in
    let fl : FitsSigned w64 c.get.result.now = search rules in
    let wl = earned c.args.flat.now.least.items c.args.index c.args.price c.get.result.now c.args.flat.now.valid.least
    c.requires.index c.requires.price c.get.ensures.item in
    let ql = fits (c.args.price *ℤ c.get.result.now) wl in
    simp to_z-of_z ql

pub overflow_mul-by_most : goal.overflow_mul-by_most
overflow_mul-by_most c =
    let q = c.ranges.price in
    let fm : FitsSigned w64 c.get-2.result.now = search rules in
    let lt = c.requires.index in
    let long = c.args.flat.now.valid.lengths in
    let wm = earned c.args.flat.now.most.items c.args.index c.args.price c.get-2.result.now c.args.flat.now.valid.most
    (omega (arith, lt, long)) c.requires.price c.get-2.ensures.item in
    let qm = fits (c.args.price *ℤ c.get-2.result.now) wm in
    simp to_z-of_z qm

pub returns-clause-value : goal.returns-clause-value
returns-clause-value c =
    let r = renewable_of c.args.flat.now in
    let k = c.args.index in
    let q = c.ranges.price in
    let fl : FitsSigned w64 c.get.result.now = search rules in
    let fm : FitsSigned w64 c.get-2.result.now = search rules in
    let f : FitsSigned w64 c.max.result = search rules in
    let least = get_or_from_slice_get c.args.flat.now.least.items k c.get.result.now (pos 0) c.get.ensures.item in
    let most = get_or_from_slice_get c.args.flat.now.most.items k c.get-2.result.now (pos 0) c.get-2.ensures.item in
    let lt = c.requires.index in
    let long = c.args.flat.now.valid.lengths in
    let wl = earned c.args.flat.now.least.items k c.args.price c.get.result.now c.args.flat.now.valid.least lt
    c.requires.price c.get.ensures.item in
    let wm = earned c.args.flat.now.most.items k c.args.price c.get-2.result.now c.args.flat.now.valid.most
    (omega (arith, lt, long)) c.requires.price c.get-2.ensures.item in
    let ql = fits (c.args.price *ℤ c.get.result.now) wl in
    let qm = fits (c.args.price *ℤ c.get-2.result.now) wm in
    let e = simp to_z-of_z at c.max.ensures in
    simp to_z-of_z
    (e.value ∙ ap (λ (z : ℤ). int_max (c.args.price *ℤ z) (c.args.price *ℤ c.get-2.result.now)) (sym least)
    ∙ ap (λ (z : ℤ). int_max (c.args.price *ℤ int_at r.least k) (c.args.price *ℤ z)) (sym most))

pub returns-clause-limit : goal.returns-clause-limit
returns-clause-limit c =
    let k = c.args.index in
    let q = c.ranges.price in
    let fl : FitsSigned w64 c.get.result.now = search rules in
    let fm : FitsSigned w64 c.get-2.result.now = search rules in
    let f : FitsSigned w64 c.max.result = search rules in
    let lt = c.requires.index in
    let long = c.args.flat.now.valid.lengths in
    let wl = earned c.args.flat.now.least.items k c.args.price c.get.result.now c.args.flat.now.valid.least lt
    c.requires.price c.get.ensures.item in
    let wm = earned c.args.flat.now.most.items k c.args.price c.get-2.result.now c.args.flat.now.valid.most
    (omega (arith, lt, long)) c.requires.price c.get-2.ensures.item in
    let ql = fits (c.args.price *ℤ c.get.result.now) wl in
    let qm = fits (c.args.price *ℤ c.get-2.result.now) wm in
    let e = simp to_z-of_z at c.max.ensures in
    let a = wl.at_least in
    let b = wl.at_most in
    let x = wm.at_least in
    let y = wm.at_most in
    let within : IsWithin 10000000000000000 c.max.result =
    record {
      at_least = omega (arith, ints, clamps, e, a, x);
      at_most =
          omega (arith, ints, clamps, e, b, y);
    } in
    simp to_z-of_z within
