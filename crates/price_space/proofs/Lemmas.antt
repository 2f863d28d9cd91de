-- The lemmas that answers cite, passed on from one place.
pub use Rattle.price_space.proofs.CaseLaws.{units_same, giving, rising_outputs, rising_count, flat_horizon, most_more}
pub use Rattle.price_space.proofs.OpeningLaws.{opened_limits, map_by_places, opening_is, zeros_by_places, magnitude}
pub use Rattle.price_space.proofs.StartLaws.{from_true, rising_from, not_under, power_of, stops_at, ends_short}
pub use Rattle.price_space.proofs.StartLaws.{abs_up_to}
pub use Rattle.price_space.proofs.FirstGreatest.{value_at, picks, first_more, first_is, number_is, length_values}
pub use Rattle.price_space.proofs.Steps.{price_limits, stepped_is, last_below}
