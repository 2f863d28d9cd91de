-- The names that the proofs of this crate take from its specs and from other crates, passed on from one place.
pub use Rattle.std.proofs.Common.{◌≡◌, ℕ, ◌+◌, ◌≤◌, Bool, true, false, cond, List, Option, Some, None, Result, Ok, Err}
pub use Rattle.std.proofs.Common.{refl, ap, subst, arith, is_some, [], ◌∷◌, length, sym, ◌∙◌, ◌*◌, ◌<◌, drop, get_or}
pub use Rattle.std.proofs.Common.{add-one, String, ◌||◌, ◌^◌, not, ◌&&◌, eqb, leb, ltb, ◌++◌, take, rules, inl, inr}
pub use Rattle.std.proofs.Common.{lit<}
pub use Rattle.std.proofs.lemmas.Option.{same_Some}
pub use Rattle.std.proofs.lemmas.Slice.Eq.{bytes_eq-Decides, starts_is}
pub use Rattle.std.specs.List.{find, list_all, position_or_len, before_first, after_first}
pub use Rattle.std.specs.String.{string_bytes}
pub use Rattle.hull_words.specs.Asked.{Found, asked_from}
pub use Rattle.hull_words.specs.WordPass.{flag, set_count, is_set, with_number, put, set_to, value_step}
pub use Rattle.hull_words.specs.WordPass.{option_step, plain_step, nothing, then_on, found_so_far}
unfoldable pub use Rattle.hull_words.specs.WordPass.{word_step, read_from}
pub use Rattle.hull_words.specs.Spelling.{spelling, command_named, options}
pub use Rattle.hull_words.specs.WordTexts.{takes_next, is_equals}
unfoldable pub use Rattle.hull_words.specs.WordTexts.{
  is_option,
  option_name,
  can_be_value,
  own_value,
  is_numeral,
  number_in,
}
pub use Rattle.hull_words.specs.Words.{option_in, setting, try_number, is_given, is_value_after, first_of, backwards}
pub use Rattle.hull_words.specs.Words.{or_fault, fault, values_of, texts, asked_of, or_missing, is_named, or_else, fits}
pub use Rattle.hull_words.specs.Words.{option_fault, plain_words, plain_fault}
unfoldable pub use Rattle.hull_words.specs.Words.{value_at, fault_at, first_fault, found_in, value_of, words_of}
pub use Rattle.hull_words.specs.declared.word_fault.WordCode.{WordCode}
pub use Rattle.hull_words.specs.declared.word_fault.WordCode.TheVariants.{RepeatedOption, NoValue, StrayWord, NoCommand}
pub use Rattle.hull_words.specs.declared.word_fault.WordCode.TheVariants.{UnknownCommand, BadNumber}
pub use Rattle.hull_words.specs.declared.word_fault.WordFault.{WordFault}
pub use Rattle.hull_words.specs.declared.kinds.CommandKind.{CommandKind}
pub use Rattle.hull_words.specs.declared.kinds.CommandKind.TheVariants.{Try, Price, Check, Bound, Fixed, Audit, Settle}
pub use Rattle.hull_words.specs.declared.kinds.CommandKind.TheVariants.{Certify, Convex}
pub use Rattle.hull_words.specs.declared.kinds.OptionKind.{OptionKind}
pub use Rattle.hull_words.specs.declared.kinds.OptionKind.TheVariants.{Case, Schedule, Report, Prices, Mixture}
pub use Rattle.hull_words.specs.declared.kinds.OptionKind.TheVariants.{Proposals, Workers, Ahead, Radius, Within}
pub use Rattle.hull_words.specs.declared.kinds.OptionKind.TheVariants.{Rounds}
