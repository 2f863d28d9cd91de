-- The names that the proofs of this crate take from its specs and from other crates, passed on from one place.
pub use Rattle.std.proofs.Common.{ℕ, List, Result, Ok, Err, ◌≡◌, ◌≢◌, zero, suc, ◌+◌, ◌-◌, ◌*◌, ◌<◌, ◌≤◌, Bool, true}
pub use Rattle.std.proofs.Common.{false, cond, ◌⊎◌, inl, inr, [], ◌∷◌, ◌++◌, length, refl, sym, ap, subst, ◌∙◌, arith}
pub use Rattle.std.proofs.Common.{true≢false, Option, Some, None, rules, not, ◌||◌, bytes_eq, get_or, ap₂}
pub use Rattle.std.proofs.Common.{append_assoc, take, drop, set, drop-cons, add-one}
pub use Rattle.std.proofs.lemmas.Bool.{cases_lt}
pub use Rattle.std.proofs.lemmas.List.{append-nil, length-append, length-set, get_or_append_left, map_push}
pub use Rattle.std.proofs.lemmas.List.{take_more, take_all, drop-drop}
pub use Rattle.std.proofs.lemmas.Result.{err_from_is_err_and}
pub use Rattle.std.specs.Prelude.{IfOk, Contains}
pub use Rattle.text_tokens.specs.Ahead.{rest, ahead}
pub use Rattle.text_tokens.specs.Goes.{goes}
pub use Rattle.text_tokens.specs.Seen.{token_of, scalar_of}
pub use Rattle.text_tokens.specs.Small.{decimal_of}
pub use Rattle.text_tokens.specs.Strings.{Piece, string_of, string_token, said}
unfoldable pub use Rattle.text_tokens.specs.Strings.{string_at}
pub use Rattle.text_tokens.specs.Tokens.{Lexed, lexed, is_blank, tokens, Read, word_of, kinds}
unfoldable pub use Rattle.text_tokens.specs.Tokens.{token_at, tokens_from}
pub use Rattle.uc_text.specs.Faults.{length_of_numbers, levels, Test, grammar, double_keys, ScalarPasses, LevelPasses}
pub use Rattle.uc_text.specs.Faults.{KeysPass, Passes, ItemsPass, MembersPass, Begins, IsFault, IsShort, PassesBefore}
pub use Rattle.uc_text.specs.Grammar.{Token, open_list, close_list, open_object, close_object, comma, colon, word}
pub use Rattle.uc_text.specs.Grammar.{key, end, spell, spell_items, spell_more_items, spell_members}
pub use Rattle.uc_text.specs.Grammar.{spell_more_members}
pub use Rattle.uc_text.specs.Adds.{Adds, IsOne, in_turn}
pub use Rattle.uc_text.specs.Known.{is_there, names_said, AreDifferent, IsFirst}
pub use Rattle.uc_text.specs.Later.{DoublesStop}
pub use Rattle.uc_text.specs.declared.names.Name.{Name}
unfoldable pub use Rattle.uc_text.specs.Known.{hash_of}
pub use Rattle.uc_text.specs.Parts.{names, IsNewName, IsStuck, passed_items, opened, Starts, StartsBefore}
pub use Rattle.uc_text.specs.Parts.{passed_members, opened_object}
pub use Rattle.uc_text.specs.Pairs.{Pair, items_of, members_of}
pub use Rattle.uc_text.specs.Offsets.{IfFault, NextIs, StuckAt, Reads, ReadsItems, ReadsMembers, test_of, Takes}
pub use Rattle.uc_text.specs.Offsets.{FaultIs, AtItem, seen}
pub use Rattle.uc_text.specs.Texts.{IsText, IsFirstFault}
pub use Rattle.uc_text.specs.Values.{Value, Scalar, long_number, text, scalar, list, object, Items, no_items, item}
pub use Rattle.uc_text.specs.Values.{Members, no_members, member, keys, null, flag, number}
pub use Rattle.uc_text.specs.View.{tree_view, view, views, items_in, member_view, member_views, members_in}
pub use Rattle.uc_text.specs.declared.fault.TextCode.{TextCode}
pub use Rattle.uc_text.specs.declared.fault.TextCode.TheVariants.{NotJson, NumberTooLong, TooDeep, DoubleKey}
pub use Rattle.uc_text.specs.declared.fault.TextError.{TextError}
pub use Rattle.uc_text.specs.declared.fault.TextFault.{TextFault}
pub use Rattle.text_tokens.specs.Stands.{StandsAt, number_run}
pub use Rattle.uc_text.specs.Nodes.{first, firsts, pairs, own, value_of, values, values_from, text_in}
pub use Rattle.uc_text.specs.declared.node.Node.{Node}
pub use Rattle.uc_text.specs.declared.node.Node.TheVariants.{Text as TextNode, List as ListNode, Object as ObjectNode}
pub use Rattle.uc_text.specs.declared.node.Node.TheVariants.{Number as NumberNode, Null as NullNode}
pub use Rattle.uc_text.specs.declared.tree.Tree.{Tree}
pub use Rattle.text_tokens.specs.Decimals.{decimal_in}
pub use Rattle.text_tokens.specs.Numbers.{number_of}
pub use Rattle.uc_text.specs.ValueParts.{item_values, member_pairs, list_in, object_in}
pub use Rattle.uc_text.specs.Files.{IsFile}
pub use Rattle.uc_text.specs.FileLaws.{SomeFile, FileIsOneJsonValueOrOneFault}
pub use Rattle.uc_text.specs.declared.object.Member.{Member}
