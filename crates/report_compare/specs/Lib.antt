-- the text of a report as the list of its lines
pub mod ReportLines
-- the unit lines of a right report
pub mod RightLines
-- where two lists of lines differ first
pub mod Compared
-- the first lines of a right report
pub mod Heads
-- the memory of a comparison
pub mod Desks
-- where a report differs from the right one
pub mod Right
-- the facts that a type carries have one proof at most
pub mod OneProof
-- what an audit is of, and what it comes to
pub mod Audits
