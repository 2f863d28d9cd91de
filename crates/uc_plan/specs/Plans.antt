-- The tables of a schedule file: the schedules of a value for a case, or the fault of the first
-- test that fails (this project's profile). Keys that no table names are skipped.
use Rattle.std.specs.Prelude.{ℕ, suc, Bool, true, false, not, ◌==◌, nat_lt, int_lt, List, []}
use Rattle.std.specs.Prelude.{◌∷◌, ◌++◌, length, replicate, if◌then◌else◌, codes, Option}
use Rattle.std.specs.Prelude.{Some, None, Result, Ok, bytes_eq, pos, nat_abs, unsigned_abs}
use Rattle.std.specs.Option.{option_map, option_and_then}
use Rattle.uc_model.specs.Data.{Schedule, Market, thermal_names, renewable_names, bid_names}
use Rattle.uc_model.specs.declared.kinds.Kind.{Kind}
use Rattle.uc_model.specs.declared.kinds.Kind.TheVariants.{Case, Thermal, Renewable, Bid}
use Rattle.text_tokens.specs.declared.decimal.Decimal.{Decimal}
use Rattle.text_tokens.specs.Rounding.{rounded}
use Rattle.uc_text.specs.Values.{Value}
use Rattle.uc_text.specs.Pairs.{Pair}
use Rattle.uc_text.specs.Inside.{number_in, list_in, object_in, value_under, is_whole, bit_of}
use Rattle.uc_text.specs.Magnitudes.{most_power}
use Rattle.uc_text.specs.Words.{◌>>=◌, ◌>>◌, refuse, need, each, position}
use Rattle.uc_plan.specs.Shapes.{fault}
use Rattle.uc_plan.specs.declared.fault.ShapeSite.{ShapeSite}
use Rattle.uc_plan.specs.declared.fault.ShapeCode.TheVariants.{UnknownUnit, MissingUnit}
use Rattle.uc_plan.specs.declared.fault.ShapeCode.TheVariants.{PlanShape, PlanNumber}
use Rattle.uc_plan.specs.declared.fault.ShapeFault.{ShapeFault}

-- What tests of a schedule give: a value, or the fault of the first test that failed.
abbrev pub Read : Type 0 → Type 0
Read A = Result A ShapeFault

abbrev pub shape_site : Kind → ℕ → ShapeSite
shape_site kind unit = record { kind = kind; unit = unit }

-- ---- numbers

-- a whole number from 0 to the limit
abbrev pub kilowatts_of : Decimal → Option ℕ
kilowatts_of d =
    if not (is_whole d) then None
    else if nat_lt most_power (unsigned_abs (rounded d 0)) then None
    else if int_lt (rounded d 0) (pos 0) then None
    else Some (nat_abs (rounded d 0))

abbrev pub kilowatts_in : Value → Option ℕ
kilowatts_in v = option_and_then kilowatts_of (number_in v)

abbrev pub flag_in : Value → Option Bool
flag_in v = option_and_then bit_of (number_in v)

-- the items of a list, each a number of that kind
unfoldable pub numbers : {A : Type 0} → (Value → Option A) → ShapeSite → List Value → Read (List A)
numbers number at vs =
    each (λ before v. need (fault at (position before) PlanNumber) (number v)) [] vs

-- ---- shapes

-- a list of an item for each period
abbrev pub full_list : ℕ → Value → Option (List Value)
full_list periods v =
    option_and_then (λ (vs : List Value). if length vs == periods then Some vs else None)
    (list_in v)

abbrev pub list_under : ℕ → List ℕ → List Pair → Option (List Value)
list_under periods key ms = option_and_then (full_list periods) (value_under key ms)

-- the lists of a thermal unit, each of an item for each period
pub record ThermalLists : Type 0 where
  pub on : List Value
  pub power : List Value
  pub reserve : List Value

-- those of its object, where each is there
unfoldable pub thermal_lists : ℕ → List Pair → Option ThermalLists
thermal_lists periods ms =
    option_and_then (λ (on : List Value). option_and_then (λ (power : List Value).
    option_map (λ (reserve : List Value). record { on = on; power = power; reserve = reserve })
    (list_under periods (codes "reserve") ms))
    (list_under periods (codes "power") ms))
    (list_under periods (codes "on") ms)

-- the schedule that their numbers are
unfoldable pub listed_schedule : ShapeSite → ThermalLists → Read Schedule
listed_schedule at lists = do
  on ← numbers flag_in at lists.on
  power ← numbers kilowatts_in at lists.power
  reserve ← numbers kilowatts_in at lists.reserve
  Ok (record { on = on; power = power; reserve = reserve })

unfoldable pub thermal_schedule : ℕ → ShapeSite → Value → Read Schedule
thermal_schedule periods at v = do
  ms ← need (fault at 0 PlanShape) (object_in v)
  lists ← need (fault at 0 PlanShape) (thermal_lists periods ms)
  listed_schedule at lists

-- the one list of a renewable unit or a bid: it is on in every period with reserve 0
unfoldable pub flat_schedule : ℕ → ShapeSite → Value → Read Schedule
flat_schedule periods at v = do
  vs ← need (fault at 0 PlanShape) (full_list periods v)
  power ← numbers kilowatts_in at vs
  Ok (record { on = replicate periods true; power = power; reserve = replicate periods 0 })

abbrev pub schedule_by : Kind → ℕ → ShapeSite → Value → Read Schedule
schedule_by Thermal = thermal_schedule
schedule_by _ = flat_schedule

unfoldable pub schedule : ℕ → ShapeSite → Value → Read Schedule
schedule periods at v = schedule_by at.kind periods at v

-- ---- units by name

abbrev pub is_among : List ℕ → List (List ℕ) → Bool
is_among name [] = false
is_among name (n ∷ ns) = if bytes_eq n name then true else is_among name ns

-- the schedule under a unit's name
unfoldable pub named : ℕ → List Pair → ShapeSite → List ℕ → Read Schedule
named periods members at name = do
  v ← need (fault at 0 MissingUnit) (value_under name members)
  schedule periods at v

-- the position of the first member whose name isn't one of these, or 0
abbrev pub first_unknown : List (List ℕ) → ℕ → List Pair → ℕ
first_unknown names k [] = 0
first_unknown names k (m ∷ ms) = if is_among m.name names then first_unknown names (suc k) ms else k

unfoldable pub all_known : Kind → List (List ℕ) → List Pair → Read (Unit {0})
all_known kind names ms =
    refuse (fault (shape_site kind (first_unknown names 1 ms)) 0 UnknownUnit)
    (nat_lt 0 (first_unknown names 1 ms))

-- the schedule of each unit in the order of the case
unfoldable pub schedules : ℕ → Kind → List Pair → List (List ℕ) → Read (List Schedule)
schedules periods kind members names =
    each (λ before. named periods members (shape_site kind (position before))) [] names

-- ---- the plan

abbrev pub whole : ShapeSite
whole = shape_site Case 0

abbrev pub object_under : List ℕ → List Pair → Option (List Pair)
object_under key ms = option_and_then object_in (value_under key ms)

-- absent bids are none, where the case has none
abbrev pub bids_in : ℕ → Option Value → Option (List Pair)
bids_in count None = if count == 0 then Some [] else None
bids_in count (Some v) = object_in v

-- the objects of a schedule, by unit name
pub record Groups : Type 0 where
  pub thermal : List Pair
  pub renewable : List Pair
  pub bids : List Pair

-- the three objects, where each is among the members
unfoldable pub groups_in : ℕ → List Pair → Option Groups
groups_in count ms =
    option_and_then (λ (thermal : List Pair). option_and_then (λ (renewable : List Pair).
    option_map (λ (bids : List Pair). record {
      thermal = thermal;
      renewable = renewable;
      bids = bids;
    })
    (bids_in count (value_under (codes "bids") ms)))
    (object_under (codes "renewable") ms))
    (object_under (codes "thermal") ms)

unfoldable pub groups : ℕ → Value → Read Groups
groups count v = do
  ms ← need (fault whole 0 PlanShape) (object_in v)
  need (fault whole 0 PlanShape) (groups_in count ms)

-- each member of the three objects has the name of a unit of its kind
unfoldable pub all_named : Market → Groups → Read (Unit {0})
all_named m g = do
  all_known Thermal (thermal_names m) g.thermal
  all_known Renewable (renewable_names m) g.renewable
  all_known Bid (bid_names m) g.bids

-- the schedules in the order of the units' numbers
unfoldable pub all_schedules : Market → Groups → Read (List Schedule)
all_schedules m g = do
  thermal ← schedules m.periods Thermal g.thermal (thermal_names m)
  renewable ← schedules m.periods Renewable g.renewable (renewable_names m)
  bids ← schedules m.periods Bid g.bids (bid_names m)
  Ok (thermal ++ (renewable ++ bids))

unfoldable pub plan_of : Market → Value → Read (List Schedule)
plan_of m v = do
  g ← groups (length m.bids) v
  all_named m g
  all_schedules m g
