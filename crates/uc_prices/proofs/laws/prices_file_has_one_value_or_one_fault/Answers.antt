use Rattle.uc_prices.proofs.Common.{sym, ap, ◌∙◌, reading_of, prices_in}
use Rattle.uc_prices.proofs.laws.prices_file_has_one_value_or_one_fault.Goals as goal

pub returns : goal.returns
returns c = λ periods bytes r s a b. sym a.2 ∙
    ap (reading_of (prices_in periods)) (c.file_is_one_json_value_or_one_fault.ensures.one bytes a.0 b.0 a.1 b.1) ∙ b.2
