-- The names from elsewhere that the proofs here cite.
pub mod Common
-- file_laws.rt: a file is one value, or has one first fault
pub mod FileLaws
-- inside.rt: a key looked for, member by member
pub mod Finds
-- what `each` reads, item by item, as a loop does; the readers of cases, plans, prices and mixtures cite it
pub mod EachLaws
-- The values behind nodes that were passed.
pub mod Passed
-- The items and members that are taken one after the other.
pub mod Taken
-- No value's tokens begin another's.
pub mod Spellings
-- A fault within a list, and within an object.
pub mod Lists
pub mod Objects
-- The reader's steps over a list's tokens, an object's, and those of a value and the whole text.
pub mod Steps
pub mod MemberSteps
pub mod ValueSteps
-- A text has one value or one first fault, and an answer is the only one.
pub mod Uniqueness
pub mod Answered
-- Names that were met before, that ascend, that are compared later, and the first double one.
pub mod Known
pub mod Ascending
pub mod Later
pub mod FirstDoubles
-- What nodes say that were put behind others.
pub mod Nodes
-- Which token it isn't, and the node of a value of one token.
pub mod OtherTokens
pub mod Words
-- Each text has a value or a first fault.
pub mod Decided
-- No bytes are the token at the end.
pub mod Ending
-- The lemmas that answers cite.
pub mod Lemmas
