use Rattle.uc_prices.proofs.FormLaws.{prices_have_form}
use Rattle.uc_prices.proofs.laws.prices_are_per_period_and_within_limits.Goals as goal

pub returns : goal.returns
returns c = prices_have_form c.file_is_one_json_value_or_one_fault.ensures.one
