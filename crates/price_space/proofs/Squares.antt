-- Sizes of squares and quotients.
use Rattle.price_space.proofs.Common.{◌≡◌, ℕ, suc, ◌*◌, ℤ, pos, negsuc, ◌-ℤ◌, ◌*ℤ◌, ◌≤ℤ◌, ◌<ℤ◌, int_div, FitsSigned}
use Rattle.price_space.proofs.Common.{to_z, of_z, ap, ◌∙◌, arith, ints, lit<, to_z-of_z, w64, w128, *ℤ_comm, *ℤ-zero}
use Rattle.price_space.proofs.Common.{pos-*ℤ-pos, div-le_self, IsFrom, mul-sub, mul-mono_of, fits_within, IsWithin}
use Rattle.price_space.specs.Sizes.{IsEntry}

-- the square of a number that isn't negative
square_of : (n : ℕ) (z : ℤ) → pos 0 ≤ℤ z → z ≤ℤ pos n → IsFrom (pos 0) (pos (n * n)) (z *ℤ z)
square_of n z low high =
    let a = mul-mono_of z (pos 0) z low low in
    let none = *ℤ-zero z in
    let b = mul-mono_of z z (pos n) low high in
    let c = mul-mono_of (pos n) z (pos n) (omega (arith, ints)) high in
    let turn = *ℤ_comm z (pos n) in
    let whole = pos-*ℤ-pos n n in
    record { at_least = omega (arith, ints, a, none); at_most = omega (arith, ints, b, c, turn, whole) }

square_turned : (z w : ℤ) → w ≡ pos 0 -ℤ z → w *ℤ w ≡ z *ℤ z
square_turned z w e =
    let a = ap (λ (y : ℤ). w *ℤ y) e ∙ mul-sub w (pos 0) z in
    let b = *ℤ_comm w z ∙ ap (λ (y : ℤ). z *ℤ y) e ∙ mul-sub z (pos 0) z in
    let c = *ℤ-zero w in
    let d = *ℤ-zero z in
    omega (arith, ints, a, b, c, d)

pub square_within : (n : ℕ) (z : ℤ) → IsWithin n z → IsFrom (pos 0) (pos (n * n)) (z *ℤ z)
square_within n (pos m) h = square_of n (pos m) (omega (arith, ints)) h.at_most
square_within n (negsuc m) h =
    let low = h.at_least in
    let w = pos (suc m) in
    let e : pos (suc m) ≡ pos 0 -ℤ negsuc m = omega (arith, ints) in
    let same = square_turned (negsuc m) (pos (suc m)) e in
    let s = square_of n (pos (suc m)) (omega (arith, ints)) (omega (arith, ints, low)) in
    let a = s.at_least in
    let b = s.at_most in
    record { at_least = omega (arith, ints, a, same); at_most = omega (arith, ints, b, same) }

-- a quotient is no greater in magnitude than what is divided
pub quotient_within : (n : ℕ) (a d : ℤ) → IsWithin n a → pos 0 <ℤ d → IsWithin n (int_div a d)
quotient_within n (pos m) (pos b) h low =
    let high = h.at_most in
    let part = div-le_self m b in
    record { at_least = omega (arith, ints); at_most = omega (arith, ints, high, part) }
quotient_within n (negsuc m) (pos b) h low =
    let least = h.at_least in
    let part = div-le_self (suc m) b in
    record { at_least = omega (arith, ints, least, part); at_most = omega (arith, ints) }
quotient_within n (pos m) (negsuc b) h low = absurd (omega (arith, ints, low))
quotient_within n (negsuc m) (negsuc b) h low = absurd (omega (arith, ints, low))

-- an entry keeps its value in a register twice as wide
pub entry_widened : (e z : ℤ) → IsEntry e → FitsSigned w64 e → z ≡ to_z w64 (of_z w64 e) → to_z w128 (of_z w128 z) ≡ e
entry_widened e z entry fits is =
    let same : z ≡ e = is ∙ to_z-of_z w64 e fits in
    rw same (to_z-of_z w128 e (fits_within w128 20000000000000 e entry (lit< tt)))

-- the square of an entry fits its register
pub entry_squared : (e : ℤ) → IsEntry e → FitsSigned w128 (e *ℤ e)
entry_squared e entry =
    let square = square_within 20000000000000 e entry in
    let low = square.at_least in
    let high = square.at_most in
    fits_within w128 400000000000000000000000000 (e *ℤ e)
    (record { at_least = omega (arith, ints, low); at_most = high }) (lit< tt)
