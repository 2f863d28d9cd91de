use Rattle.uc_mixture.proofs.Common.{sym, ap, ◌∙◌, reading_of, mixture_in}
use Rattle.uc_mixture.proofs.laws.mixture_file_has_one_value_or_one_fault.Goals as goal

pub returns : goal.returns
returns c = λ m bytes r s a b. sym a.2 ∙ ap (reading_of (mixture_in m))
    (c.file_is_one_json_value_or_one_fault.ensures.one bytes a.0 b.0 a.1 b.1) ∙
    b.2
