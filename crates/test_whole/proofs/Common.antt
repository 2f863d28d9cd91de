-- The names that the proofs of this crate take from its specs and from other crates, passed on from one place.
pub use Rattle.std.proofs.Common.{◌≡◌, ℕ, zero, suc, ◌+◌, ◌*◌, ◌<◌, List, [], ◌∷◌, length, get_or, Option, Some, None}
pub use Rattle.std.proofs.Common.{refl, sym, ap, ◌∙◌, arith, inl, inr, ◌≤◌, rules, ◌++◌, length-append, subst, drop}
pub use Rattle.std.proofs.Common.{take, to_z, of_z}
pub use Rattle.std.proofs.lemmas.Bool.{cases_lt}
pub use Rattle.std.proofs.lemmas.Int.{ints, clamps, by_lt_z, to_z-of_z}
pub use Rattle.std.proofs.lemmas.List.Elements.{All-push}
pub use Rattle.std.specs.Int.{int_min, w64}
pub use Rattle.std.specs.List.{All}
pub use Rattle.std.specs.Prelude.{ℤ, pos, neg_ℤ, ◌+ℤ◌, ◌-ℤ◌, ◌*ℤ◌, ◌≤ℤ◌, ◌<ℤ◌, int_lt, true, false, FitsSigned}
pub use Rattle.board_share.specs.Seats.{view_of, IsSameBoard}
pub use Rattle.board_share.specs.Tells.{KeepsRest}
pub use Rattle.unit_program.specs.Tops.{IsBenchOver}
pub use Rattle.audit_check.specs.Jobs.{AreFor}
pub use Rattle.slope_list.specs.Curve.{rise_at, curve_value, end_of, reserve_term, IsLimitedCurve}
pub use Rattle.uc_model.specs.PlainCases.{schedules_of, market_of}
pub use Rattle.uc_model.specs.TaskRoom.{IsTaskFor}
pub use Rattle.uc_model.specs.declared.units.Block.{Block}
pub use Rattle.test_whole.specs.Small.{IsSmall, IsModestAt, IsNear, AreFair}
