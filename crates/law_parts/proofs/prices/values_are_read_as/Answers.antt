use Rattle.law_parts.proofs.PlainLaws.{is_read_as}
use Rattle.law_parts.proofs.prices.values_are_read_as.Goals as goal

pub returns : goal.returns
returns c = is_read_as c.decimal_rounds_to_nearest_integer.ensures
