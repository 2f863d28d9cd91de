-- The names that the proofs of this crate take from its specs and from other crates, passed on from one place.
pub use Rattle.std.proofs.Common.{◌≡◌, ℕ, ◌+◌, ◌-◌, ◌<◌, ◌≤◌, List, length, get_or, take, drop, None, refl, sym, ap}
pub use Rattle.std.proofs.Common.{◌∙◌, arith, inl, inr, get_or-take, get_or-drop, length-take, length-drop, Option}
pub use Rattle.std.proofs.Common.{Some, subst, rules, to_z, of_z, ◌++◌, vec_len, length-append, below_more, ◌≢◌}
pub use Rattle.std.proofs.Common.{get_or-set_same, get_or-set_other}
pub use Rattle.std.proofs.lemmas.Bool.{cases_lt}
pub use Rattle.std.proofs.lemmas.Int.{ints, clamps, to_z-of_z}
pub use Rattle.std.proofs.lemmas.List.{take_at, get_or_append_left, get_or_push}
pub use Rattle.std.specs.Int.{int_max, int_min, w64}
pub use Rattle.std.specs.Prelude.{ℤ, pos, ◌+ℤ◌, ◌≤ℤ◌, ◌<ℤ◌, ◌⊎◌, slice_get, MatchOption, ◌-ℤ◌, ◌*ℤ◌, FitsSigned, neg_ℤ}
pub use Rattle.level_table.proofs.LimitLaws.{within_limits}
pub use Rattle.level_table.specs.Values.{table, IsLeastOf, AreWithin}
pub use Rattle.slope_list.specs.Curve.{curve_value, reserve_term}
pub use Rattle.slope_list.specs.Effect.{IsLeast, IsLeastIn, IsSum, IsWindow, Reaches, IsCurveSum}
pub use Rattle.slope_list.proofs.Lookup.{IsAt-from_value, value-from_is_at, value_of-at, value_of-below, power_split}
pub use Rattle.slope_list.proofs.Lookup.{slice_get_past, same_some, value-from_index, slice_get_in}
pub use Rattle.slope_list.specs.Table.{value_of, HasNone, IsWithinLimits, IsPlace}
