use Rattle.law_parts.proofs.audit.printed_reports_are_in_form.Goals as goal

pub returns : goal.returns
returns c bytes m plan budget ahead r read feasible asked right =
    c.right_reports_are_in_form.ensures m plan budget ahead r
    (record {
      market = c.cases_are_within.ensures bytes m read;
      names = c.case_names_are_utf8.ensures bytes m read;
      feasible = feasible;
    }) asked right
