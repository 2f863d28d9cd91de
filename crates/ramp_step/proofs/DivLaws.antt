-- Division without a remainder, and values along a line.
use Rattle.ramp_step.proofs.Common.{◌≡◌, ℕ, ◌<◌, ap, ◌∙◌, arith, inl, inr, ℤ, pos, negsuc, ◌+ℤ◌, ◌-ℤ◌, ◌*ℤ◌, ◌≤ℤ◌, ◌<ℤ◌}
use Rattle.ramp_step.proofs.Common.{◌⊎◌, int_div, int_rem, unsigned_abs, ints, by_lt_z, quot-rem, rem_below, *ℤ_comm}
use Rattle.ramp_step.proofs.Common.{*ℤ-zero, mul-add, mul-mono_of, IsAmount}
use Rattle.ramp_step.proofs.TimesLaws.{times_one, times_minus}

abs_below : (r : ℤ) (n : ℕ) → unsigned_abs r < n → (r <ℤ pos n) × ((pos 0 -ℤ pos n) <ℤ r)
abs_below (pos m) n h = (omega (arith, ints), omega (arith, ints))
abs_below (negsuc m) n h = (omega (arith, ints), omega (arith, ints))

pub exact_div : (a s d : ℤ) → pos 0 <ℤ d → a ≡ s *ℤ d → int_div a d ≡ s
exact_div a s (pos n) h e =
    let d = pos n in
    let q = int_div a d in
    let whole = quot-rem a d in
    let small = abs_below (int_rem a d) n (rem_below a d (omega (arith, ints))) in
    let t = s -ℤ q in
    let back : s *ℤ d ≡ d *ℤ q +ℤ d *ℤ t = *ℤ_comm s d ∙ ap (λ z. d *ℤ z) (omega (arith, ints)) ∙ mul-add d q t in
    let turn = *ℤ_comm q d in
    by_lt_z q s
    (λ less.
    let m = mul-mono_of d (pos 1) t (omega (arith, ints)) (omega (arith, ints)) in
    let one = times_one d in
    absurd (omega (arith, ints)))
    (λ upto. by_lt_z s q
    (λ more.
    let m = mul-mono_of d t (negsuc 0) (omega (arith, ints)) (omega (arith, ints)) in
    let minus = times_minus d in
    absurd (omega (arith, ints)))
    (λ same. omega (arith, ints)))
exact_div a s (negsuc n) h e = absurd (omega (arith, ints))

-- part of the way is part of the rise
pub part_of_rise : (s d e : ℤ) → pos 0 ≤ℤ d → d ≤ℤ e →
    ((pos 0 ≤ℤ (s *ℤ d)) × ((s *ℤ d) ≤ℤ (s *ℤ e))) ⊎ (((s *ℤ e) ≤ℤ (s *ℤ d)) × ((s *ℤ d) ≤ℤ pos 0))
part_of_rise s d e h i =
    let z = *ℤ-zero d in
    let z' = *ℤ-zero (e -ℤ d) in
    let c = *ℤ_comm d s in
    let c' = *ℤ_comm (e -ℤ d) s in
    let sum : s *ℤ e ≡ s *ℤ d +ℤ s *ℤ (e -ℤ d) = ap (λ z. s *ℤ z) (omega (arith, ints)) ∙ mul-add s d (e -ℤ d) in
    by_lt_z s (pos 0)
    (λ down.
    let m = mul-mono_of d s (pos 0) h (omega (arith, ints)) in
    let m' = mul-mono_of (e -ℤ d) s (pos 0) (omega (arith, ints)) (omega (arith, ints)) in
    inr (omega (arith, ints), omega (arith, ints)))
    (λ up.
    let m = mul-mono_of d (pos 0) s h up in
    let m' = mul-mono_of (e -ℤ d) (pos 0) s (omega (arith, ints)) up in
    inl (omega (arith, ints), omega (arith, ints)))

pub amount_part : (va vb s d e : ℤ) → vb ≡ va +ℤ s *ℤ e → pos 0 ≤ℤ d → d ≤ℤ e → IsAmount va → IsAmount vb →
    IsAmount (va +ℤ s *ℤ d)
amount_part va vb s d e whole low high a b =
    elim (part_of_rise s d e low high) [
      | inl p ↦ let p0 = p.0 in let p1 = p.1 in (omega (arith, ints), omega (arith, ints))
      | inr p ↦ let p0 = p.0 in let p1 = p.1 in (omega (arith, ints), omega (arith, ints))
    ]
