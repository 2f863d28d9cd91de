use Rattle.uc_model.proofs.Common.{rules, arith, ◌≡◌, ◌+◌, ◌/◌, ◌%◌, ℤ, sym, ap, ◌∙◌, inl, inr, cases_lt, to_z-of_z}
use Rattle.uc_model.proofs.Common.{w64, option_map, FitsSigned, Point}
use Rattle.uc_model.proofs.Lemmas.{get_first_of_two, get_second_of_two}
use Rattle.uc_model.proofs.task_numbers.flattened_cost_point_number_at.Goals as goal

abbrev first : Point → ℤ
first l = l.at

abbrev second : Point → ℤ
second l = l.cost

pub returns-in-Some : goal.returns-in-Some
returns-in-Some c =
    let even : c.args.place ≡ c.args.place / 2 + c.args.place / 2 = omega (arith, c.if-place-eq0.true) in
    let at_place = get_first_of_two first second c.args.points.now c.args.place (c.args.place / 2) even in
    let found = sym c.point_at.ensures ∙ c.in-Some.is in
    let fits : FitsSigned w64 c.in-Some.point.at = search rules in
    simp to_z-of_z (sym (at_place ∙ ap (option_map first) found))

pub returns-in-Some-2 : goal.returns-in-Some-2
returns-in-Some-2 c =
    let odd : c.args.place ≡ c.args.place / 2 + c.args.place / 2 + 1 = omega (arith, c.if-place-eq0.false) in
    let at_place = get_second_of_two first second c.args.points.now c.args.place (c.args.place / 2) odd in
    let found = sym c.point_at.ensures ∙ c.in-Some.is in
    let fits : FitsSigned w64 c.in-Some.point.cost = search rules in
    simp to_z-of_z (sym (at_place ∙ ap (option_map second) found))

pub returns-in-None : goal.returns-in-None
returns-in-None c =
    let none = sym c.point_at.ensures ∙ c.in-None.is in
    elim (cases_lt (c.args.place % 2) 1) [
      | inl low ↦
          let even : c.args.place ≡ c.args.place / 2 + c.args.place / 2 = omega (arith, low) in
          sym (get_first_of_two first second c.args.points.now c.args.place (c.args.place / 2) even ∙
          ap (option_map first) none)
      | inr high ↦
          let odd : c.args.place ≡ c.args.place / 2 + c.args.place / 2 + 1 = omega (arith, high) in
          sym (get_second_of_two first second c.args.points.now c.args.place (c.args.place / 2) odd ∙
          ap (option_map second) none)
    ]
