-- The table of a mixture file: the mixture of a value for a case, or the fault of the first test
-- that fails (this project's profile). Keys that the table doesn't name are skipped.
use Rattle.std.specs.Prelude.{ℕ, ℤ, pos, not, ◌==◌, nat_lt, int_lt, unsigned_abs, List, []}
use Rattle.std.specs.Prelude.{map, length, codes, if◌then◌else◌, Option, Some, None, Result, Ok}
use Rattle.std.specs.Option.{option_and_then, option_zip}
use Rattle.std.specs.Ordering.{int_eq}
use Rattle.gap_proof.specs.Mixtures.{WeighedSchedule, MixtureLists, most_whole}
use Rattle.plain_lists.specs.Sums.{total}
use Rattle.uc_text.specs.Pairs.{Pair}
use Rattle.uc_text.specs.Values.{Value}
use Rattle.uc_text.specs.Inside.{number_in, list_in, object_in, value_under, is_whole}
use Rattle.uc_text.specs.Words.{◌>>=◌, ◌>>◌, refuse, need, each, position}
use Rattle.uc_model.specs.Data.{Market, thermal_names}
use Rattle.uc_model.specs.declared.kinds.Kind.TheVariants.{Thermal}
use Rattle.text_tokens.specs.Rounding.{rounded}
use Rattle.text_tokens.specs.declared.decimal.Decimal.{Decimal}
use Rattle.uc_plan.specs.Plans.{ThermalLists, thermal_lists, listed_schedule, all_known, object_under}
use Rattle.uc_plan.specs.declared.fault.ShapeCode.TheVariants.{MissingUnit, PlanShape}
use Rattle.uc_mixture.specs.Faults.{site_of_file, site_of_unit, entry_at, shape_site_of, fault, within}
use Rattle.uc_mixture.specs.declared.fault.ShareCode.TheVariants.{Shape, Weight}
use Rattle.uc_mixture.specs.declared.fault.ShareFault.{ShareFault}
use Rattle.uc_mixture.specs.declared.fault.ShareSite.{ShareSite}
use Rattle.uc_mixture.specs.declared.entries.Frame.{Frame}

-- What tests of a mixture give: a value, or the fault of the first test that failed.
abbrev pub Read : Type 0 → Type 0
Read A = Result A ShareFault

-- ---- weights

-- a whole number from least to most, none of which is below 0
abbrev pub weight_of : ℤ → ℤ → Decimal → Option ℤ
weight_of least most d =
    if not (is_whole d) then None
    else if nat_lt (unsigned_abs most) (unsigned_abs (rounded d 0)) then None
    else if int_lt (rounded d 0) least then None
    else Some (rounded d 0)

abbrev pub weight_in : ℤ → ℤ → Value → Option ℤ
weight_in least most v = option_and_then (weight_of least most) (number_in v)

abbrev pub weight_sum : List WeighedSchedule → ℤ
weight_sum entries = total (map (λ (e : WeighedSchedule). e.weight) entries)

-- ---- entries

-- the weight and the lists of an entry, where each is among its members
abbrev pub entry_parts : ℕ → List Pair → Option (Value × ThermalLists)
entry_parts periods ms = option_zip (value_under (codes "weight") ms) (thermal_lists periods ms)

-- an entry of these: its weight comes first, and then the items of its lists
unfoldable pub weighed : Frame → ShareSite → Value → ThermalLists → Read WeighedSchedule
weighed frame at heavy lists = do
  weight ← need (fault at Weight) (weight_in (pos 0) frame.whole heavy)
  schedule ← within at.entry (listed_schedule (shape_site_of at) lists)
  Ok (record { weight = weight; schedule = schedule })

-- an entry, whose shape comes before all else
unfoldable pub entry : Frame → ShareSite → Value → Read WeighedSchedule
entry frame at v = do
  ms ← need (fault at (Shape PlanShape)) (object_in v)
  parts ← need (fault at (Shape PlanShape)) (entry_parts frame.periods ms)
  weighed frame at parts.0 parts.1

-- each at the site of its position
unfoldable pub entries : Frame → ShareSite → List Value → Read (List WeighedSchedule)
entries frame at vs = each (λ before. entry frame (entry_at at (position before))) [] vs

-- a list that isn't empty
abbrev pub some_list : Value → Option (List Value)
some_list v =
    option_and_then (λ (vs : List Value). if length vs == 0 then None else Some vs) (list_in v)

-- the entries of a unit, whose weights sum to the whole
unfoldable pub unit_entries : Frame → ShareSite → Value → Read (List WeighedSchedule)
unit_entries frame at v = do
  vs ← need (fault at (Shape PlanShape)) (some_list v)
  es ← entries frame at vs
  refuse (fault at Weight) (not (int_eq (weight_sum es) frame.whole))
  Ok es

-- ---- units by name

unfoldable pub named : Frame → List Pair → ShareSite → List ℕ → Read (List WeighedSchedule)
named frame members at name = do
  v ← need (fault at (Shape MissingUnit)) (value_under name members)
  unit_entries frame at v

-- the entries of each unit in the order of the case
unfoldable pub units : Frame → List Pair → List (List ℕ) → Read (List (List WeighedSchedule))
units frame members names =
    each (λ before. named frame members (site_of_unit (position before))) [] names

-- ---- the mixture

-- the whole, and the entries of the units by name
pub record Head : Type 0 where
  pub whole : ℤ
  pub thermal : List Pair

-- the weight and the units of a mixture, where each is among its members
abbrev pub head_parts : List Pair → Option (Value × List Pair)
head_parts ms = option_zip (value_under (codes "weight") ms) (object_under (codes "thermal") ms)

unfoldable pub head : Value → Read Head
head v = do
  ms ← need (fault site_of_file (Shape PlanShape)) (object_in v)
  parts ← need (fault site_of_file (Shape PlanShape)) (head_parts ms)
  whole ← need (fault site_of_file Weight) (weight_in (pos 1) most_whole parts.0)
  Ok (record { whole = whole; thermal = parts.1 })

abbrev pub frame_of : Market → Head → Frame
frame_of m h = record { periods = m.periods; whole = h.whole }

unfoldable pub mixture_in : Market → Value → Read MixtureLists
mixture_in m v = do
  h ← head v
  within 0 (all_known Thermal (thermal_names m) h.thermal)
  entries ← units (frame_of m h) h.thermal (thermal_names m)
  Ok (record { whole = h.whole; entries = entries })
