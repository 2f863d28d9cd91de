use Rattle.uc_mixture.proofs.Common.{market_of}
use Rattle.uc_mixture.proofs.Answered.{is_only}
use Rattle.uc_mixture.proofs.read.read_mixture.Goals as goal

pub returns-clause-only : goal.returns-clause-only
returns-clause-only c = λ r is. is_only c.mixture_file_has_one_value_or_one_fault.ensures (market_of c.args.case.now)
    c.args.bytes.now
    c.mixture_of_bytes.result c.mixture_of_bytes.ensures.answer r is
