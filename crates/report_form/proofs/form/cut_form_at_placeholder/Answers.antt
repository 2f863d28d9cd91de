use Rattle.report_form.proofs.Common.{sym, ◌∙◌}
use Rattle.report_form.proofs.FormLemmas.{before_blank, behind_blank, before_none, behind_none}
use Rattle.report_form.proofs.form.cut_form_at_placeholder.Goals as goal

pub returns-in-Some-clause-before : goal.returns-in-Some-clause-before
returns-in-Some-clause-before c = before_blank c.args.form.now c.in-Some.index
    (sym c.first_placeholder_in_form.ensures ∙ c.in-Some.is)

pub returns-in-Some-clause-behind : goal.returns-in-Some-clause-behind
returns-in-Some-clause-behind c = behind_blank c.args.form.now c.in-Some.index
    (sym c.first_placeholder_in_form.ensures ∙ c.in-Some.is)

pub returns-in-None-clause-before : goal.returns-in-None-clause-before
returns-in-None-clause-before c = before_none c.args.form.now (sym c.first_placeholder_in_form.ensures ∙ c.in-None.is)

pub returns-in-None-clause-behind : goal.returns-in-None-clause-behind
returns-in-None-clause-behind c = behind_none c.args.form.now (sym c.first_placeholder_in_form.ensures ∙ c.in-None.is)
