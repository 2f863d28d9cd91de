-- The names that the proofs of this crate take from its specs and from other crates, passed on from one place.
pub use Rattle.std.proofs.Common.{◌≡◌, ℕ, List, [], ◌∷◌, ◌++◌, refl, sym, ap, ◌∙◌, append_assoc, codes, rules}
pub use Rattle.std.proofs.lemmas.Int.{to_z-of_z}
pub use Rattle.std.specs.Int.{w128}
pub use Rattle.hull_fault.specs.FaultLines.{status_of, status_told, fault_told}
unfoldable pub use Rattle.hull_fault.specs.FaultLines.{
  unit_told,
  shape_told,
  field_told,
  rule_told,
  text_told,
  words_told,
  share_told,
  entry_told,
}
