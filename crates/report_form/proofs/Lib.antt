-- The names from elsewhere that the proofs here cite.
pub mod Common
-- parts.rt, pieces.rt, laws.rt: how what a sink holds grows
mod GrownLemmas
-- pieces.rt: texts that are written in pieces
mod PieceLemmas
-- form.rt: forms, cut at their blanks, and what of a form is written
mod FormLemmas
-- parts.rt: how the bytes of a name are escaped
mod NameLemmas
-- parts.rt, pieces.rt: numbers in digits
mod NumeralLaws
-- report.rt: the rows, one after another
mod RowTexts
-- laws.rt: a text read back from the left
mod ReadBack
-- laws.rt: the blocks of a report, read back
mod ReadLines
-- laws.rt: a report, read back block by block
mod ReadReport
-- laws.rt: a settlement, read back block by block
mod ReadSettlement
-- laws.rt: a certificate, read back line by line
mod ReadCertificate
-- laws.rt: a search for convex hull prices, read back block by block
mod ReadConvex
-- Crates above: texts one after another, over the law of laws.rt.
pub mod TextLaws
-- The lemmas that answers cite.
pub mod Lemmas
