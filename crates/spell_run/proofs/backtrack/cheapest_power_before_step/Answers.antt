use Rattle.spell_run.proofs.Common.{rules, ◌≡◌, ◌+ℤ◌, ◌-ℤ◌, ap, ◌∙◌, arith, w64, FitsSigned, to_z, of_z, int_min}
use Rattle.spell_run.proofs.Common.{int_max, to_z-of_z, fits_within, signed}
use Rattle.spell_run.proofs.Lemmas.{cheapest_near}
use Rattle.spell_run.proofs.backtrack.cheapest_power_before_step.Goals as goal

pub returns : goal.returns
returns c = λ f v y w turn first last there reach.
    let s = c.args.step in
    let n = c.args.note in
    let x = c.args.power in
    let fits_low : FitsSigned w64 (x -ℤ s.ramp_up) = fits_within w64 3000000000 (x -ℤ s.ramp_up)
    (record { at_least = omega signed; at_most = omega signed }) (omega arith) in
    let fits_high : FitsSigned w64 (x +ℤ s.ramp_down) = fits_within w64 3000000000 (x +ℤ s.ramp_down)
    (record { at_least = omega signed; at_most = omega signed }) (omega arith) in
    let fits_x : FitsSigned w64 x = search rules in
    let fits_up : FitsSigned w64 s.ramp_up = search rules in
    let fits_down : FitsSigned w64 s.ramp_down = search rules in
    let fits_first : FitsSigned w64 n.first = search rules in
    let fits_last : FitsSigned w64 n.last = search rules in
    let fits_turn : FitsSigned w64 n.turn = search rules in
    let fits_a : FitsSigned w64 c.max-low.result = search rules in
    let fits_b : FitsSigned w64 c.min-high.result = search rules in
    let fits_c : FitsSigned w64 c.min.result = search rules in
    let fits_d : FitsSigned w64 c.max.result = search rules in
    let low : c.max-low.result ≡ int_max (x -ℤ s.ramp_up) n.first = simp to_z-of_z at c.max-low.ensures.value in
    let high : c.min-high.result ≡ int_min (x +ℤ s.ramp_down) n.last = simp to_z-of_z at c.min-high.ensures.value in
    let near : c.min.result ≡ int_min c.min-high.result n.turn = simp to_z-of_z at c.min.ensures.value in
    let top : c.max.result ≡ int_max c.max-low.result c.min.result = simp to_z-of_z at c.max.ensures.value in
    let is : to_z w64 (of_z w64 c.max.result) ≡ int_max (int_max (x -ℤ s.ramp_up) n.first)
    (int_min (int_min (x +ℤ s.ramp_down) n.last) n.turn) =
    to_z-of_z w64 _ fits_d ∙ top ∙ ap (λ z. int_max z c.min.result) low ∙
    ap (int_max (int_max (x -ℤ s.ramp_up) n.first)) (cc) in
    cheapest_near turn first last there reach is
