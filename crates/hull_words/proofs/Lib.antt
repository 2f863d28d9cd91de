-- The names from elsewhere that the proofs here cite.
pub mod Common
-- word_text.rt: what std says of a text's parts, in the words of this crate
pub mod TextLemmas
-- word_pass.rt: how many values are set, and what one step of the reader adds
pub mod Counts
-- given.rt: what was put for an option is its value, where it is set then
pub mod Puts
-- word_pass.rt: one step of the reader is the rules of that word
pub mod Steps
-- word_pass.rt: the reader's pass gives what the rules give
pub mod Exact
-- word_pass.rt: the pass over the words, word by word, as the reader's loop makes it
pub mod Pass
-- The lemmas that answers cite.
pub mod Lemmas
