-- Worked trees: the definition computes.
use Rattle.uc_case.proofs.Common.{◌≡◌, [], ◌∷◌, Ok, Err, ℕ, List, true, false, refl, pos, negsuc, codes, Value, scalar}
use Rattle.uc_case.proofs.Common.{number, list, object, Pair, items_of, members_of, value_under, each, amount}
use Rattle.uc_case.proofs.Common.{time_within}
use Rattle.uc_case.proofs.Common.{powers, full, renewable_unit, keyed_renewable, units, renewable, bids, all_units}
use Rattle.uc_case.proofs.Common.{horizon, needs, keyed_case, case_of}
use Rattle.text_tokens.specs.Rounding.{rounded, rounded_size}
use Rattle.uc_field.specs.declared.fault.CaseCode.TheVariants as codes_of
use Rattle.uc_field.specs.declared.fault.Field.TheVariants as fields
use Rattle.uc_model.specs.declared.kinds.Kind.TheVariants as kinds

-- a whole number, and a number of tenths
abbrev whole_number : ℕ → Value
whole_number n = scalar (number (record { negative = false; digits = n; exponent = pos 0 }))

abbrev minus_tenths : ℕ → Value
minus_tenths n = scalar (number (record { negative = true; digits = n; exponent = negsuc 0 }))

abbrev under : List ℕ → Value → Pair
under name v = record { name = name; value = v }

abbrev one : Value → Value
one v = list (items_of (v ∷ []))

-- no key at all: 20 at time_periods
pub empty_object : case_of (object (members_of [])) ≡ Err
    (record { code = codes_of.Missing; field = fields.TimePeriods; kind = kinds.Case; unit = 0; item = 0 })
unfolding case_of keyed_case horizon value_under
empty_object = refl

-- one period, and a demand of one item that is negative: 23 at demand, item 1
pub negative_demand : case_of
    (object (members_of
    (under (codes "demand") (one (minus_tenths 5)) ∷ under (codes "time_periods") (whole_number 1) ∷ [])))
    ≡ Err (record { code = codes_of.Negative; field = fields.Demand; kind = kinds.Case; unit = 0; item = 1 })
unfolding case_of keyed_case horizon needs value_under powers full amount time_within each rounded rounded_size
negative_demand = refl

-- a renewable unit of 100 MW, and the kilowatts of its case
abbrev smallest : Value
smallest = object (members_of (
    under (codes "time_periods") (whole_number 1)
    ∷ under (codes "demand") (one (whole_number 100))
    ∷ under (codes "reserves") (one (whole_number 0))
    ∷ under (codes "thermal_generators") (object (members_of []))
    ∷ under (codes "renewable_generators") (object (members_of (under (codes "W") (object (members_of (
    under (codes "power_output_minimum") (one (whole_number 0)) ∷ under (codes "power_output_maximum")
    (one (whole_number 100)) ∷ []))) ∷ [])))
    ∷ []))

pub smallest_case : case_of smallest ≡ Ok (record {
  periods = 1;
  demand = pos 100000 ∷ [];
  reserves = pos 0 ∷ [];
  thermal = [];
  flat = record { name = codes "W"; unit = record { least = pos 0 ∷ []; most = pos 100000 ∷ [] } } ∷ [];
  bids = [];
})
unfolding case_of keyed_case horizon needs all_units value_under powers full amount time_within each rounded
    rounded_size units renewable renewable_unit keyed_renewable bids
smallest_case = refl
