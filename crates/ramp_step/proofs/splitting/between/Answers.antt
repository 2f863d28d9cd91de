use Rattle.ramp_step.proofs.Common.{◌≡◌, sym, ap, ◌∙◌, arith, to_z, of_z, ℤ, ◌+ℤ◌, ◌-ℤ◌, ◌*ℤ◌, w64, ints, to_z-of_z}
use Rattle.ramp_step.proofs.Lemmas.{amount_part}
use Rattle.ramp_step.proofs.splitting.between.Goals as goal

pub along-value-requires-clause-after : goal.along-value-requires-clause-after
along-value-requires-clause-after c =
    let a = c.args.a in
    let b = c.args.b in
    let line = c.requires.line in
    let s = line.slope in
    let run = b.at -ℤ a.at in
    let e-rise : to_z w64 (of_z w64 (to_z w64 (of_z w64 b.value) -ℤ to_z w64 (of_z w64 a.value))) ≡ b.value -ℤ a.value =
    omega (arith, ints) in
    let e-run : to_z w64 (of_z w64 (to_z w64 (of_z w64 b.at) -ℤ to_z w64 (of_z w64 a.at))) ≡ run =
    omega (arith, ints) in
    let whole : b.value -ℤ a.value ≡ s *ℤ run = omega (arith, ints, line.whole) in
    let is : c.slope_of-slope.result ≡ s = c.slope_of-slope.ensures s (e-rise ∙ whole ∙ ap (λ z. s *ℤ z) (sym e-run)) in
    let e-slope : to_z w64 (of_z w64 c.slope_of-slope.result) ≡ s =
    to_z-of_z w64 _ (record { sfits = c.slope_of-slope.type_inv }) ∙ is in
    let e-value : to_z w64 (of_z w64 a.value) ≡ a.value = omega (arith, ints) in
    let e-x : to_z w64 (of_z w64 (to_z w64 (of_z w64 c.args.x) -ℤ to_z w64 (of_z w64 a.at))) ≡ c.args.x -ℤ a.at =
    omega (arith, ints) in
    rw (e-value, e-slope, e-x) (amount_part a.value b.value s (c.args.x -ℤ a.at) run line.whole (omega (arith, ints))
    (omega (arith, ints)) c.requires.within.amount_a c.requires.within.amount_b)

pub returns : goal.returns
returns c =
    let a = c.args.a in
    let b = c.args.b in
    let line = c.requires.line in
    let run = b.at -ℤ a.at in
    let x = c.args.x in
    let e-rise : to_z w64 (of_z w64 (to_z w64 (of_z w64 b.value) -ℤ to_z w64 (of_z w64 a.value))) ≡ b.value -ℤ a.value =
    omega (arith, ints) in
    let e-run : to_z w64 (of_z w64 (to_z w64 (of_z w64 b.at) -ℤ to_z w64 (of_z w64 a.at))) ≡ run =
    omega (arith, ints) in
    let e-value : to_z w64 (of_z w64 a.value) ≡ a.value = omega (arith, ints) in
    let e-x : to_z w64 (of_z w64 (to_z w64 (of_z w64 x) -ℤ to_z w64 (of_z w64 a.at))) ≡ x -ℤ a.at =
    omega (arith, ints) in
    let e-result : to_z w64 (of_z w64 c.along-value.result) ≡ c.along-value.result =
    to_z-of_z w64 _ (record { sfits = c.along-value.type_inv }) in
    let value : (s : ℤ) → b.value ≡ a.value +ℤ s *ℤ run →
    to_z w64 (of_z w64 c.along-value.result) ≡ a.value +ℤ s *ℤ (x -ℤ a.at) = λ s e.
    let whole : b.value -ℤ a.value ≡ s *ℤ run = omega (arith, ints) in
    let is : c.slope_of-slope.result ≡ s = c.slope_of-slope.ensures s (e-rise ∙ whole ∙ ap (λ z. s *ℤ z) (sym e-run)) in
    let e-slope : to_z w64 (of_z w64 c.slope_of-slope.result) ≡ s =
    to_z-of_z w64 _ (record { sfits = c.slope_of-slope.type_inv }) ∙ is in
    e-result ∙ rw (e-value, e-slope, e-x) at c.along-value.ensures
    in
    record {
      at = to_z-of_z w64 _ c.ranges.x;
      value = value;
      amount = rw (value line.slope line.whole)
          (amount_part a.value b.value line.slope (x -ℤ a.at) run line.whole (omega (arith, ints)) (omega (arith, ints))
          c.requires.within.amount_a c.requires.within.amount_b);
    }
