-- The names from elsewhere that the proofs here cite.
pub mod Common
-- wrong.rt: lines that are compared one by one, and behind one another
pub mod Comparing
-- due.rt, units.rt: the title and the lines of a number
pub mod UnitLaws
-- a line tells its numbers, since a text tells its report
pub mod OneLine
-- rows.rt, parts.rt, units.rt: how lines are judged
pub mod Judging
-- rows.rt, units.rt: the lines of proposals and of units, one after another
pub mod UnitCompared
-- report.rt: the text of a report is its lines
pub mod Texts
-- report.rt: each line ends with its one line feed
pub mod LineBytes
-- report.rt: the first lines that differ are where the texts do
pub mod FirstLine
-- report.rt: the right report and its lines
pub mod RightReports
-- report.rt: what the comparison tells of the report
pub mod Verdicts
-- audited.rt: what holds of all that is audited
pub mod AuditedLaws
-- laws.rt: a wrong report has a line that differs
pub mod SomeLine
-- report.rt: all lines, part by part
pub mod WholeCompared
-- verdict.rt: what the first lines tell, and how many rows that takes
pub mod Early
-- The lemmas that answers cite.
pub mod Lemmas
