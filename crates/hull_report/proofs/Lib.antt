-- The names from elsewhere that the proofs here cite.
pub mod Common
-- record.rt, settled.rt, fixed.rt: the texts of all units, number by number and kind by kind
mod UnitTexts
-- record.rt: the text of a record's report, part by part
mod WholeReports
-- convex.rt: the text of a search, part by part
mod ConvexTexts
-- The lemmas that answers cite.
pub mod Lemmas
