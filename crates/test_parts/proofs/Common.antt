-- The names that the proofs of this crate take from other crates, passed on from one place.
pub use Rattle.std.proofs.Common.{◌≡◌, ℕ, ◌≤◌, ℤ, pos, ◌≤ℤ◌, IsTrue, true, List, [], ◌∷◌, ◌++◌, length, map, drop, refl}
pub use Rattle.std.proofs.Common.{sym, ap, ◌∙◌, subst, arith, length-append, rules, FitsSigned}
pub use Rattle.std.proofs.lemmas.List.Elements.{All-map, All-push, All-same, All-weaker}
pub use Rattle.std.proofs.lemmas.Int.{ints, to_z-of_z}
pub use Rattle.std.specs.Int.{w128}
pub use Rattle.std.specs.List.{All}
pub use Rattle.std.specs.Prelude.{slice_index_or}
pub use Rattle.price_space.specs.Sizes.{IsRowBelow}
pub use Rattle.uc_model.specs.Data.{Market, Schedule}
pub use Rattle.uc_model.specs.Laws.{HasPlanShape}
pub use Rattle.uc_model.specs.Limits.{IsWorth}
pub use Rattle.uc_model.specs.PlainCases.{market_of, proposal_of}
pub use Rattle.uc_model.specs.declared.cases.Row.{Row}
