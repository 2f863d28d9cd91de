-- The powers that one is chosen from as they are stored, and what is chosen.
use Rattle.test_units.proofs.Common.{◌≡◌, ℕ, ℤ, ◌+ℤ◌, ◌-ℤ◌, sym, ap, ◌∙◌, subst, arith, ints, reserve_term, IsLeastIn}
use Rattle.test_units.proofs.Common.{Table, value_of, HasNone, Some, Schedule, IsFrom, IsOutput, Step, IsWritten}
use Rattle.test_units.proofs.Common.{IsChosen, best_reserve, IsFairStep, IsKinked, IsSmall}
use Rattle.plain_lists.proofs.SignedLaws.{stored, stored_is}
use Rattle.spell_run.proofs.FairLaws.{output_stored}
use Rattle.spell_run.proofs.SumLaws.{added}

module _ (s : Step) (fair : IsFairStep s) (p : ℤ) (p_out : IsOutput p) where
  up_stored : stored s.ramp_up ≡ s.ramp_up
  up_stored = stored_is s.ramp_up (let a = fair.ramp_up.at_least in let b = fair.ramp_up.at_most in
      record { at_least = omega (arith, ints, a); at_most = omega (arith, ints, b) })

  down_stored : stored s.ramp_down ≡ s.ramp_down
  down_stored = stored_is s.ramp_down (let a = fair.ramp_down.at_least in let b = fair.ramp_down.at_most in
      record { at_least = omega (arith, ints, a); at_most = omega (arith, ints, b) })

  low_stored : stored (stored p -ℤ stored s.ramp_up) ≡ p -ℤ s.ramp_up
  low_stored =
      ap (λ (x : ℤ). stored (x -ℤ stored s.ramp_up)) (output_stored p_out) ∙ ap (λ (x : ℤ). stored (p -ℤ x)) up_stored
      ∙ stored_is (p -ℤ s.ramp_up) (
      let a = fair.ramp_up.at_least in
      let b = fair.ramp_up.at_most in
      let c = p_out.at_least in
      let d = p_out.at_most in
      record { at_least = omega (arith, ints, b, c); at_most = omega (arith, ints, a, d) }
      )

  high_stored : stored (stored p +ℤ stored s.ramp_down) ≡ p +ℤ s.ramp_down
  high_stored =
      ap (λ (x : ℤ). stored (x +ℤ stored s.ramp_down)) (output_stored p_out) ∙
      ap (λ (x : ℤ). stored (p +ℤ x)) down_stored
      ∙ stored_is (p +ℤ s.ramp_down) (
      let a = fair.ramp_down.at_least in
      let b = fair.ramp_down.at_most in
      let c = p_out.at_least in
      let d = p_out.at_most in
      record { at_least = omega (arith, ints, a, c); at_most = omega (arith, ints, b, d) }
      )

  pub least_stored : (f : Table) (v y : ℤ) →
      IsLeastIn (stored (stored p -ℤ stored s.ramp_up)) (stored (stored p +ℤ stored s.ramp_down)) f v y →
      IsLeastIn (p -ℤ s.ramp_up) (p +ℤ s.ramp_down) f v y
  least_stored f v y h =
      subst (λ (a : ℤ). IsLeastIn a (p +ℤ s.ramp_down) f v y) low_stored
      (subst (λ (b : ℤ). IsLeastIn (stored (stored p -ℤ stored s.ramp_up)) b f v y) high_stored h)

  pub none_stored : (f : Table) → HasNone (stored (stored p -ℤ stored s.ramp_up))
      (stored (stored p +ℤ stored s.ramp_down)) f → HasNone (p -ℤ s.ramp_up) (p +ℤ s.ramp_down) f
  none_stored f h =
      subst (λ (a : ℤ). HasNone a (p +ℤ s.ramp_down) f) low_stored
      (subst (λ (b : ℤ). HasNone (stored (stored p -ℤ stored s.ramp_up)) b f) high_stored h)

-- the power of a step is an output
pub found_out : (s : Step) (p : ℤ) → IsFairStep s → IsFrom s.least s.cap p → IsOutput p
found_out s p fair h =
    let a = h.at_least in
    let b = h.at_most in
    let c = fair.least.at_least in
    let d = fair.cap.at_most in
    record { at_least = omega (arith, ints, a, c); at_most = omega (arith, ints, b, d) }

-- and so is a power before it
pub kinked_out : (s : Step) (f g : Table) (y v : ℤ) → IsSmall f → IsKinked s f g → value_of g y ≡ Some v → IsOutput y
kinked_out s f g y v small kinked h =
    let a = added (reserve_term s.reserve_price s.cap s.ramp_up) y (kinked y) h in
    (small y a.0 a.1).0

-- a choice as it is stored
pub chosen_stored : (s : Step) (f g : Table) (k : ℕ) (x y v : ℤ) (d d' : Schedule) → IsFairStep s → IsSmall f →
    IsFrom s.least s.cap x → IsKinked s f g →
    IsLeastIn (stored (stored x -ℤ stored s.ramp_up)) (stored (stored x +ℤ stored s.ramp_down)) g v y →
    IsWritten k (stored x) (best_reserve s.reserve_price s.cap s.ramp_up (stored y) (stored x)) d d' →
    IsChosen s f k x (stored y) d d'
chosen_stored s f g k x y v d d' fair small found kinked least written =
    let out = found_out s x fair found in
    let before = kinked_out s f g y v small kinked least.there in
    let e = output_stored before in
    record {
      kinked = g;
      is_kinked = kinked;
      value = v;
      least = subst (λ (z : ℤ). IsLeastIn (x -ℤ s.ramp_up) (x +ℤ s.ramp_down) g v z) (sym e)
          (least_stored s fair x out g v y least);
      written = subst (λ (z : ℤ). IsWritten k z (best_reserve s.reserve_price s.cap s.ramp_up (stored y) z) d d')
          (output_stored out) written;
    }
