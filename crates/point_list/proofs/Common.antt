-- The names that the proofs of this crate take from its specs and from other crates, passed on from one place.
pub use Rattle.std.proofs.Common.{◌≡◌, ℕ, ◌^◌, ◌<◌, ◌≤◌, List, ◌++◌, length, take, drop, Option, sym, ◌∙◌, subst, arith}
pub use Rattle.std.proofs.Common.{to_z, of_z, ap, [], ◌∷◌, rules}
pub use Rattle.std.proofs.lemmas.Int.{to_z-of_z}
pub use Rattle.std.specs.Int.{w64}
pub use Rattle.std.specs.Prelude.{ℤ, pos, ◌*ℤ◌, FitsSigned}
pub use Rattle.point_list.specs.Breaks.{IsCountedList}
pub use Rattle.ramp_step.specs.Knots.{knot}
pub use Rattle.ramp_step.specs.declared.breakpoint.Knot.{Knot}
pub use Rattle.slope_list.specs.Curve.{curve_value, reserve_term}
