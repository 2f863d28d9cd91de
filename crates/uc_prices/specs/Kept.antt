-- What a price that was read keeps.
use Rattle.std.specs.Prelude.{ℤ, pos, neg_ℤ}
use Rattle.plain_lists.specs.Ranges.{IsFrom}
use Rattle.uc_model.specs.Limits.{price_limit}
use Rattle.uc_prices.specs.declared.fault.PriceField.{PriceField}
use Rattle.uc_prices.specs.declared.fault.PriceField.TheVariants.{Reserve}

abbrev pub least_of : PriceField → ℤ
least_of Reserve = pos 0
least_of _ = neg_ℤ price_limit

-- a price of a list: no reserve price is below 0
abbrev pub IsPriceOf : PriceField → ℤ → Type 0
IsPriceOf field x = IsFrom (least_of field) price_limit x
