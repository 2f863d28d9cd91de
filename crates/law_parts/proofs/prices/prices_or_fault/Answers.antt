use Rattle.std.proofs.Common.{refl}
use Rattle.uc_text.specs.Files.{reading_of}
use Rattle.uc_prices.specs.Tables.{prices_in}
use Rattle.law_parts.proofs.prices.prices_or_fault.Goals as goal

pub returns : goal.returns
returns c = λ periods bytes. let found = c.file_is_one_json_value_or_one_fault.ensures.some bytes in
    (reading_of (prices_in periods) found.0, (found.0, found.1, refl))
