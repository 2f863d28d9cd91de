-- Worked trees: the definition computes.
use Rattle.uc_plan.proofs.Common.{◌≡◌, [], ◌∷◌, Ok, Err, ℕ, List, true, false, refl, Market, Value, scalar, number}
use Rattle.uc_plan.proofs.Common.{list, object, Pair, items_of, members_of, value_under, each, numbers, flat_schedule}
use Rattle.uc_plan.proofs.Common.{schedule, named, all_known, schedules, groups, groups_in, plan_of, all_named}
use Rattle.uc_plan.proofs.Common.{all_schedules}
use Rattle.std.specs.Prelude.{pos, codes}
use Rattle.uc_model.specs.declared.kinds.Kind.TheVariants as kinds
use Rattle.text_tokens.specs.Rounding.{rounded, rounded_size}
use Rattle.uc_plan.specs.declared.fault.ShapeCode.TheVariants as codes_of

abbrev whole_number : ℕ → Value
whole_number n = scalar (number (record { negative = false; digits = n; exponent = pos 0 }))

abbrev under : List ℕ → Value → Pair
under name v = record { name = name; value = v }

abbrev one : Value → Value
one v = list (items_of (v ∷ []))

-- a renewable unit W and one period
abbrev small : Market
small = record {
  periods = 1;
  demand = pos 100000 ∷ [];
  reserves = pos 0 ∷ [];
  thermal = [];
  flat = record { name = codes "W"; unit = record { least = pos 0 ∷ []; most = pos 100000 ∷ [] } } ∷ [];
  bids = [];
}

abbrev file : List ℕ → Value → Value
file name v =
    object (members_of (under (codes "thermal") (object (members_of [])) ∷ under (codes "renewable")
    (object (members_of (under name v ∷ []))) ∷ []))

-- W gives 100 MW
pub smallest_plan : plan_of small (file (codes "W") (one (whole_number 100000))) ≡ Ok
    (record { on = true ∷ []; power = 100000 ∷ []; reserve = 0 ∷ [] } ∷ [])
unfolding plan_of all_named all_schedules groups groups_in value_under all_known schedules named schedule flat_schedule
    numbers each rounded rounded_size
smallest_plan = refl

-- V isn't in the case: 40 comes before 41
pub unknown_name : plan_of small (file (codes "V") (one (whole_number 100000))) ≡ Err
    (record { code = codes_of.UnknownUnit; kind = kinds.Renewable; unit = 1; item = 0 })
unfolding plan_of all_named all_schedules groups groups_in value_under all_known schedules named schedule flat_schedule
    numbers each rounded rounded_size
unknown_name = refl

-- a number too large in period 1
pub large_number : plan_of small (file (codes "W") (one (whole_number 1000000001))) ≡ Err
    (record { code = codes_of.PlanNumber; kind = kinds.Renewable; unit = 1; item = 1 })
unfolding plan_of all_named all_schedules groups groups_in value_under all_known schedules named schedule flat_schedule
    numbers each rounded rounded_size
large_number = refl
