use Rattle.uc_prices.proofs.Answered.{is_only}
use Rattle.uc_prices.proofs.read.read_prices.Goals as goal

pub returns-clause-only : goal.returns-clause-only
returns-clause-only c = λ r is. is_only c.prices_file_has_one_value_or_one_fault.ensures c.args.periods
    c.args.bytes.now c.prices_of_bytes.result
    c.prices_of_bytes.ensures.answer r is
