use Rattle.law_parts.proofs.Within.{market_ok}
use Rattle.law_parts.proofs.cases.cases_are_within.Goals as goal

pub returns : goal.returns
returns c = λ bytes m h. market_ok h.0 m h.2
