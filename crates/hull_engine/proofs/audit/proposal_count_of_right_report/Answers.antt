use Rattle.hull_engine.proofs.Common.{◌≡◌, ℕ, arith, inl, refl, sym, subst, ◌∙◌, length-map, proposal_of, report_of}
use Rattle.report_compare.specs.declared.verdict.Audit.{Audit}
use Rattle.report_compare.specs.declared.verdict.Audit.TheVariants.{Right, Wrong}
use Rattle.hull_engine.proofs.audit.proposal_count_of_right_report.Goals as goal

abbrev IsWrong : Audit → Type 0
IsWrong Right = ⊥
IsWrong (Wrong line) = Unit {0}

never_both : (a : Audit) (line : ℕ) → a ≡ Wrong line → a ≡ Right → ⊥
never_both a line e h = subst IsWrong (sym e ∙ h) tt

pub overflow_cast-result : goal.overflow_cast-result
unfolding report_of
overflow_cast-result g c =
    let few = c.requires.bounds.rows_at_most in
    let long = c.len.ensures in
    let same = length-map c.args.report.now.rows.items proposal_of in
    omega (arith, few, long, same)

pub returns-in-Ok-Right-clause-answers : goal.returns-in-Ok-Right-clause-answers
returns-in-Ok-Right-clause-answers g c = (c.in-Ok-Right.ensures.right.0 c.in-Ok-Right.field-0-is, refl)

pub returns-in-Ok-Right-clause-count : goal.returns-in-Ok-Right-clause-count
unfolding report_of
returns-in-Ok-Right-clause-count g c = c.len.ensures ∙ sym (length-map c.args.report.now.rows.items proposal_of)

pub returns-in-Ok-Wrong-clause-answers : goal.returns-in-Ok-Wrong-clause-answers
returns-in-Ok-Wrong-clause-answers g c =
    let is = c.in-Ok-Wrong.field-0-is in
    inl (
      c.in-Ok-Wrong.line,
      λ right. never_both _ c.in-Ok-Wrong.line is (c.in-Ok-Wrong.ensures.right.1 right),
      rw is at c.in-Ok-Wrong.ensures.wrong,
      refl,
    )
