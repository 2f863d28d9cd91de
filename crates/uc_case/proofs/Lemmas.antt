-- The lemmas that answers cite, passed on from one place.
pub use Rattle.uc_case.proofs.Limited.{renewable_fits, power_stored, output_stored, thermal_fits, market_fits}
pub use Rattle.uc_case.proofs.Members.{member_goes_on, member_ends}
