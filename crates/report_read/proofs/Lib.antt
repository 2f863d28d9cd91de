-- The names from elsewhere that the proofs here cite.
pub mod Common
-- words.rt, numbers.rt: what a loop over bytes has read so far
pub mod Steps
-- items.rt, names.rt: what a loop over items, or over a name, has read so far
pub mod Loops
-- rows.rt, units.rt: what a loop over proposals, or over units, has read so far
pub mod LineLoops
-- head.rt, rows.rt, read.rt: where a line is in fault
pub mod Stopped
-- numbers.rt: narrower limits, and numbers with a sign
pub mod Narrow
-- rows.rt, units.rt, read.rt: words and lists are read from their text alone
pub mod Reading
-- rows.rt, units.rt, read.rt: so are numbers
pub mod Numerals
-- names.rt, units.rt: so are names
pub mod QuotedNames
-- rows.rt, units.rt, read.rt: lines one after the other are so too, and stop at the first line in fault
pub mod Forms
-- rows.rt, head.rt: the first lines, proposals and the last lines
pub mod RowForms
-- units.rt: units and bids
pub mod UnitForms
-- read.rt: the whole report
pub mod WholeForm
-- laws.rt: at most one line is in fault, and one is the first that differs
pub mod AtMostOneLineIsInFault
-- The lemmas that answers cite.
pub mod Lemmas
