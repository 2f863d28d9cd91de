-- The lemmas that answers cite, passed on from one place.
pub use Rattle.hull_words.proofs.Pass.{at_end, words_of-none, words_of-unknown, words_of-fault, words_of-found}
pub use Rattle.hull_words.proofs.Pass.{texts-drop, past_value, past_word, at_fault, few_more, first_of-texts}
pub use Rattle.hull_words.proofs.TextLemmas.{can_be_value-first, can_be_value-empty, number_in-long, number_in-other}
pub use Rattle.hull_words.proofs.TextLemmas.{number_in-below, number_in-above, number_in-within, parsed, not_parsed}
pub use Rattle.hull_words.proofs.TextLemmas.{is_option-false, stripped, name-before, name-whole, value-behind}
pub use Rattle.hull_words.proofs.TextLemmas.{value-none}
pub use Rattle.hull_words.proofs.Puts.{set_is}
