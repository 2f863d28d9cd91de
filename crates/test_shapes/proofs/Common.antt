-- The names that the proofs of this crate take from its specs and from other crates, passed on from one place.
pub use Rattle.std.proofs.Common.{◌≡◌, ℕ, ◌+◌, ◌-◌, ◌*◌, ◌≤◌, List, [], ◌∷◌, ap, arith, ◌∙◌, subst, inl, inr, ℤ, pos}
pub use Rattle.std.proofs.Common.{◌+ℤ◌, ◌-ℤ◌, ◌*ℤ◌, ◌≤ℤ◌, ◌<ℤ◌, Some, None, refl, sym, w64, FitsSigned, Option, of_z}
pub use Rattle.std.proofs.Common.{IsSome, rules, to_z, get_or, drop}
pub use Rattle.std.specs.Option.{option_map}
pub use Rattle.std.specs.Prelude.{◌⊎◌}
pub use Rattle.slope_list.specs.Table.{Table}
pub use Rattle.test_shapes.specs.Laws.{OthersStay, FramesJoin, EndedShapesLeaveNothing}
pub use Rattle.std.proofs.Math.IntN.{*ℤ-zero}
pub use Rattle.std.proofs.lemmas.Int.{ints, to_z-of_z}
pub use Rattle.std.proofs.lemmas.List.{drop_more}
pub use Rattle.cost_curve.specs.CostCurve.{CanEvaluate, IsAmount}
pub use Rattle.plain_lists.proofs.SignedLaws.{fits64, stored}
pub use Rattle.uc_model.specs.Curves.{rise_at, curve_value}
pub use Rattle.plain_lists.specs.Ranges.{IsFrom}
pub use Rattle.uc_model.specs.declared.units.Block.{Block}
pub use Rattle.uc_model.specs.declared.units.Curve.{Curve}
