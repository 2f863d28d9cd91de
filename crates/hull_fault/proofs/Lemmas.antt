-- The lemmas that answers cite, passed on from one place.
pub use Rattle.hull_fault.proofs.FaultTexts.{unit_joined}
pub use Rattle.report_form.proofs.TextLaws.{first_of_three, second_of_three, last_of_three, writes_same}
