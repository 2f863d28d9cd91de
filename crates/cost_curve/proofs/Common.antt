-- The names that the proofs of this crate take from its specs and from other crates, passed on from one place.
pub use Rattle.std.proofs.Common.{◌≡◌, ℕ, suc, ◌+◌, ◌-◌, ◌*◌, ◌<◌, ◌≤◌, ◌⊎◌, inl, inr, ℤ, pos, ◌+ℤ◌, ◌-ℤ◌, ◌*ℤ◌, ◌≤ℤ◌}
pub use Rattle.std.proofs.Common.{◌<ℤ◌, Bool, true, false, cond, Some, None, List, [], ◌∷◌, ◌++◌, length}
pub use Rattle.std.proofs.Common.{slice_index_or, refl, sym, ap, ◌∙◌, subst, arith, length-append, neg_ℤ, w64}
pub use Rattle.std.proofs.Common.{FitsSigned, Option, zero, map, ◌/◌, negsuc, of_z, IsSome, rules, to_z}
pub use Rattle.std.proofs.Math.IntN.{*ℤ-zero, *ℤ_comm, zero-*ℤ, *ℤ-one, pos-*ℤ-pos, negsuc-*ℤ-pos, suc_ℤ-*ℤ, pred_ℤ-*ℤ}
pub use Rattle.std.proofs.Math.IntN.{+ℤ_one, -ℤ_one}
pub use Rattle.std.proofs.lemmas.Int.{ints, to_z-of_z, clamps, fold-int_min_bounds, fold-int_max_bounds}
pub use Rattle.std.proofs.lemmas.List.{get_or_append_left, get_or_default, get_or-map, length-map}
pub use Rattle.std.specs.Int.{int_min, int_max, int_div_euclid, int_rem_euclid}
pub use Rattle.std.specs.List.{All, fold, reduce}
pub use Rattle.std.specs.Option.{option_map}
pub use Rattle.std.specs.Prelude.{int_lt, int_le, unwrap_or, is_some}
pub use Rattle.cost_curve.specs.Building.{rise_of, extended, IsBuilt}
pub use Rattle.cost_curve.specs.CostCurve.{AreCostPoints, IsCostCurve, CanEvaluate}
pub use Rattle.cost_curve.specs.Edges.{point_at, IsEdge, IsLast, IsVertex, AllFirst, net_at, IsSlope, IsStart, LeadsOn}
pub use Rattle.cost_curve.specs.Edges.{IsWayOn}
pub use Rattle.plain_lists.proofs.IntLaws.{mul-add, mul-sub, mul-mono_of}
pub use Rattle.plain_lists.proofs.SignedLaws.{fits64, stored, IsWithin}
pub use Rattle.uc_model.specs.BoundLaws.{PowerCostsAreWithin}
pub use Rattle.uc_model.specs.Curves.{rise_at, curve_value, end_of}
pub use Rattle.uc_model.specs.Envelope.{envelope, line_at, least_line, IsEnvelope}
pub use Rattle.uc_model.specs.Laws.{EnvelopeIsGreatest, EnvelopeEarnsAsPoints}
pub use Rattle.plain_lists.specs.Ranges.{IsFrom}
pub use Rattle.uc_model.specs.Limits.{IsCost, IsPoint, IsPower, Spans, ArePointsOrdered}
pub use Rattle.uc_model.specs.Schedules.{width_of}
pub use Rattle.uc_model.specs.declared.units.Block.{Block}
pub use Rattle.uc_model.specs.declared.units.Curve.{Curve}
pub use Rattle.uc_model.specs.declared.units.Point.{Point}
