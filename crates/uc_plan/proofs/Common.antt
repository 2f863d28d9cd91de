-- The names that the proofs of this crate take from its specs and from other crates, passed on from one place.
pub use Rattle.std.proofs.Common.{◌≡◌, ℕ, List, Result, Ok, Err, [], ◌∷◌, ◌++◌, length, map, refl, sym, ap, ◌∙◌, arith}
pub use Rattle.std.proofs.Common.{length-append, subst, suc, ◌+◌, ◌-◌, ◌<◌, ◌≤◌, Bool, true, false, cond, get_or, drop}
pub use Rattle.std.proofs.Common.{Option, Some, None, bytes_eq, if◌then◌else◌, drop-cons, add-one, Bor, rules}
pub use Rattle.std.proofs.Common.{string_bytes}
pub use Rattle.std.proofs.lemmas.List.{append_assoc, nil_from_length, length-drop, map_push, append-nil, length-map}
pub use Rattle.std.proofs.lemmas.List.Elements.{All-append, All-nil, All-push}
pub use Rattle.std.proofs.lemmas.Result.{err_from_is_err_and}
pub use Rattle.std.specs.List.{All}
pub use Rattle.std.specs.Option.{option_map}
pub use Rattle.indexmap.specs.IndexSet.{contains_by}
pub use Rattle.uc_text.proofs.EachLaws.{goes_on, ends, is_done, counted}
pub use Rattle.uc_text.specs.Files.{FileFault, text, value, reading_of, of_value}
pub use Rattle.uc_text.specs.Given.{Fails}
unfoldable pub use Rattle.uc_text.specs.Inside.{value_under}
pub use Rattle.uc_text.specs.Words.{◌>>=◌, ◌>>◌, need, position}
unfoldable pub use Rattle.uc_text.specs.Words.{each}
pub use Rattle.uc_text.specs.declared.stop.Stop.{Stop}
pub use Rattle.uc_model.specs.Data.{Market, Schedule, NamedThermalUnit, NamedRenewableUnit, NamedBidUnit, thermal_names}
pub use Rattle.uc_model.specs.Data.{renewable_names, bid_names}
pub use Rattle.uc_model.specs.Laws.{HasPlanShape}
pub use Rattle.uc_model.specs.PlainCases.{schedules_of, market_of}
pub use Rattle.uc_model.specs.PlainUnits.{named_thermal_of, named_renewable_of, named_bid_of, schedule_of}
pub use Rattle.uc_plan.specs.Added.{IsShaped, HasLengths, IsFlat}
pub use Rattle.uc_plan.specs.Plans.{Groups, Read, is_among, first_unknown, shape_site}
unfoldable pub use Rattle.uc_plan.specs.Plans.{
  groups,
  groups_in,
  all_known,
  all_named,
  schedules,
  all_schedules,
  plan_of,
  numbers,
  named,
  flat_schedule,
  schedule,
}
pub use Rattle.uc_plan.specs.declared.fault.ShapeSite.{ShapeSite}
pub use Rattle.uc_plan.specs.declared.fault.ShapeFault.{ShapeFault}
pub use Rattle.uc_text.specs.Pairs.{Pair, items_of, members_of}
pub use Rattle.uc_text.specs.Values.{Value, scalar, number, list, object}
pub use Rattle.uc_text.specs.View.{view, member_view, member_views, members_in, views}
pub use Rattle.uc_text.specs.View.{tree_view}
pub use Rattle.uc_text.specs.declared.branch.Branch.{Branch}
pub use Rattle.uc_text.specs.declared.object.Member.{Member}
