use Rattle.uc_mixture.proofs.Common.{refl, reading_of, mixture_in}
use Rattle.uc_mixture.proofs.laws.mixture_file_has_value_or_fault.Goals as goal

pub returns : goal.returns
returns c = λ m bytes. let found = c.file_is_one_json_value_or_one_fault.ensures.some bytes in
    (reading_of (mixture_in m) found.0, (found.0, found.1, refl))
