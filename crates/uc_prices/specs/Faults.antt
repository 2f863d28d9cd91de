-- The keys of a prices file, and the fault of a test at a site.
use Rattle.std.specs.Prelude.{ℕ, List, codes}
use Rattle.uc_prices.specs.declared.fault.PriceCode.{PriceCode}
use Rattle.uc_prices.specs.declared.fault.PriceCode.TheVariants.{Missing, WrongKind, Negative}
use Rattle.uc_prices.specs.declared.fault.PriceCode.TheVariants.{TooLarge, WrongLength}
use Rattle.uc_prices.specs.declared.fault.PriceField.{PriceField}
use Rattle.uc_prices.specs.declared.fault.PriceField.TheVariants.{Whole, Energy, Reserve}
use Rattle.uc_prices.specs.declared.fault.PriceSite.{PriceSite}
use Rattle.uc_prices.specs.declared.fault.PriceFault.{PriceFault}

-- the number under which a fault is printed (this project's profile)
abbrev pub code_number : PriceCode → ℕ
code_number Missing = 20
code_number WrongKind = 21
code_number Negative = 23
code_number TooLarge = 24
code_number WrongLength = 25

-- the keys of the file (this project's profile)
abbrev pub key_of : PriceField → List ℕ
key_of Whole = codes "whole"
key_of Energy = codes "energy"
key_of Reserve = codes "reserve"

-- the outermost value, or a list as a whole
abbrev pub site : PriceField → PriceSite
site field = record { field = field; item = 0 }

abbrev pub item_at : PriceSite → ℕ → PriceSite
item_at at k = record at { item = k }

abbrev pub fault : PriceSite → PriceCode → PriceFault
fault at code = record { code = code; field = at.field; item = at.item }
