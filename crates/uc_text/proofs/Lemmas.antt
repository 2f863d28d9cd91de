-- The lemmas that answers cite, passed on from one place.
pub use Rattle.uc_text.proofs.Known.{there_at, there_nowhere, equal_bytes, unequal_bytes}
pub use Rattle.uc_text.proofs.Known.{name_at, said_at, names_len}
pub use Rattle.uc_text.proofs.Known.{names_said-take, bytes_eq-turned}
pub use Rattle.uc_text.proofs.Later.{split_pushed, after_push, doubles_none, doubles_push, all_different}
pub use Rattle.uc_text.proofs.FirstDoubles.{Ascend, ascend_more, one_new, one_double}
pub use Rattle.uc_text.proofs.FirstDoubles.{all_new, Least, least_passed, least_less}
pub use Rattle.uc_text.proofs.FirstDoubles.{least_alone, least_all, stands_in}
pub use Rattle.uc_text.proofs.MemberSteps.{InMembers, members_begin, members_empty, members_go_on, members_end}
pub use Rattle.uc_text.proofs.MemberSteps.{name_stops, colon_stops, value_stops, member_stops_behind}
pub use Rattle.uc_text.proofs.OtherTokens.{not_end, not_end_comma, passes_on, if_fault_then, not_close_list}
pub use Rattle.uc_text.proofs.OtherTokens.{not_end_colon, not_end_close_list, not_end_close_object, not_close_object}
pub use Rattle.uc_text.proofs.OtherTokens.{not_comma, not_colon, not_text, not_start}
pub use Rattle.uc_text.proofs.Steps.{InItems, items_begin, items_empty, items_end, items_stop, items_stop_behind}
pub use Rattle.uc_text.proofs.Steps.{one_more, at_next, read_first}
pub use Rattle.uc_text.proofs.Uniqueness.{one_value, text_or_fault, one_fault}
pub use Rattle.uc_text.proofs.Nodes.{adds_none, adds_one, adds_then, adds_anew, says_list, says_object, adds_member}
pub use Rattle.uc_text.proofs.Nodes.{says_whole, one_node}
pub use Rattle.uc_text.proofs.Taken.{next_item, next_member}
pub use Rattle.uc_text.proofs.Taken.{list_of, object_of, no_text}
pub use Rattle.uc_text.proofs.Passed.{node_passed}
