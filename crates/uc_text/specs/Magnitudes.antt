-- The limits of the model as numbers that tests of a magnitude take.
use Rattle.std.specs.Prelude.{ℕ, nat_abs}
use Rattle.uc_model.specs.declared.limits.TheConstants.{POWER_LIMIT, OUTPUT_LIMIT}
use Rattle.uc_model.specs.declared.limits.TheConstants.{COST_LIMIT, PRICE_LIMIT}

abbrev pub most_power : ℕ
most_power = nat_abs POWER_LIMIT

abbrev pub most_output : ℕ
most_output = nat_abs OUTPUT_LIMIT

abbrev pub most_cost : ℕ
most_cost = nat_abs COST_LIMIT

abbrev pub most_price : ℕ
most_price = nat_abs PRICE_LIMIT
