use Rattle.gap_proof.proofs.Common.{rules, ℤ, pos, ◌+ℤ◌, ◌*ℤ◌, ap, ◌∙◌, FitsSigned, arith, ints, to_z-of_z, w64}
use Rattle.gap_proof.proofs.Common.{w128, ◌≡◌, IsFrom, IsWithin, fits_within}
use Rattle.gap_proof.specs.Mixtures.{most_whole}
use Rattle.gap_proof.specs.MixtureSizes.{IsGivenByOne}
use Rattle.gap_proof.proofs.MixtureSumLaws.{times_power, most_of_whole}
use Rattle.gap_proof.proofs.mixture_sums.weighted_output_with_entry.Goals as goal

-- what is given with one more, which is so many times x
record IsGrown (given weight sum : ℤ) : Type 0 where
  fits : FitsSigned w128 sum
  limit : IsFrom given (given +ℤ (pos 4294967296 *ℤ weight)) sum

grown : (given weight x times : ℤ) → IsFrom (pos 0) most_whole weight → IsGivenByOne given →
    IsFrom (pos 0) (pos 4294967296) x → times ≡ weight *ℤ x → IsGrown given weight (given +ℤ times)
grown given weight x times h i j e =
    let size = times_power weight x 4294967296 h.at_least j in
    let most = most_of_whole 4294967296 weight h in
    let a = size.at_least in
    let b = size.at_most in
    let d = most.at_most in
    let low = i.at_least in
    let high = i.at_most in
    let within : IsWithin 9000000000000000000000 (given +ℤ times) =
    record { at_least = omega (arith, ints, e, a, low); at_most = omega (arith, ints, e, b, d, high) } in
    record {
      fits = fits_within w128 9000000000000000000000 (given +ℤ times) within (omega arith);
      limit = record { at_least = omega (arith, ints, e, a); at_most = omega (arith, ints, e, b) };
    }

pub overflow_add-result : goal.overflow_add-result
overflow_add-result c =
    let qe : FitsSigned w64 c.args.entry.now.weight = search rules in
    let qp : FitsSigned w64 c.power_at.result = search rules in
    let qq : FitsSigned w128 c.args.given.power = search rules in
    let f : FitsSigned w128 c.wide_product.result = search rules in
    let t = simp to_z-of_z at c.wide_product.ensures in
    let fits = (grown c.args.given.power c.args.entry.now.weight c.power_at.result c.wide_product.result
    c.requires.weight
    c.requires.power c.power_at.ensures.limit t).fits in
    simp to_z-of_z fits

pub overflow_add-result-2 : goal.overflow_add-result-2
overflow_add-result-2 c =
    let qe : FitsSigned w64 c.args.entry.now.weight = search rules in
    let qp : FitsSigned w64 c.reserve_at.result = search rules in
    let qq : FitsSigned w128 c.args.given.reserve = search rules in
    let f : FitsSigned w128 c.wide_product-2.result = search rules in
    let t = simp to_z-of_z at c.wide_product-2.ensures in
    let fits = (grown c.args.given.reserve c.args.entry.now.weight c.reserve_at.result c.wide_product-2.result
    c.requires.weight c.requires.reserve c.reserve_at.ensures.limit t).fits in
    simp to_z-of_z fits

pub returns : goal.returns
returns c =
    let weight = c.args.entry.now.weight in
    let qe : FitsSigned w64 c.args.entry.now.weight = search rules in
    let qp : FitsSigned w64 c.power_at.result = search rules in
    let qr : FitsSigned w64 c.reserve_at.result = search rules in
    let qs : FitsSigned w128 c.args.given.power = search rules in
    let qt : FitsSigned w128 c.args.given.reserve = search rules in
    let f : FitsSigned w128 c.wide_product.result = search rules in
    let g : FitsSigned w128 c.wide_product-2.result = search rules in
    let p = c.power_at.ensures in
    let r = c.reserve_at.ensures in
    let t = simp to_z-of_z at c.wide_product.ensures in
    let u = simp to_z-of_z at c.wide_product-2.ensures in
    let power = grown c.args.given.power weight c.power_at.result c.wide_product.result c.requires.weight
    c.requires.power p.limit t in
    let reserve = grown c.args.given.reserve weight c.reserve_at.result c.wide_product-2.result c.requires.weight
    c.requires.reserve r.limit u in
    let fits_power = power.fits in
    let fits_reserve = reserve.fits in
    record {
      power = simp to_z-of_z (ap (λ (z : ℤ). c.args.given.power +ℤ z) (t ∙ ap (λ (z : ℤ). weight *ℤ z) p.value));
      reserve = simp to_z-of_z (ap (λ (z : ℤ). c.args.given.reserve +ℤ z) (u ∙ ap (λ (z : ℤ). weight *ℤ z) r.value));
      power_limit = simp to_z-of_z power.limit;
      reserve_limit = simp to_z-of_z reserve.limit;
    }
