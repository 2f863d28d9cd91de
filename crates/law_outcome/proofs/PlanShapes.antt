-- What is read of a schedule's file has a schedule over the horizon for each unit.
use Rattle.law_outcome.proofs.Common.{◌≡◌, ℕ, true, List, [], ◌∷◌, length, Option, None, Some, Result, Ok, Err}
use Rattle.law_outcome.proofs.Common.{refl, sym}
use Rattle.law_outcome.proofs.Common.{ap, ◌∙◌, subst, All, IsTrue, Market, Schedule, if◌then◌else◌, length-map}
use Rattle.std.proofs.Common.{◌++◌, replicate}
use Rattle.std.proofs.lemmas.List.{length-replicate}
use Rattle.std.proofs.lemmas.List.Elements.{All-replicate}
use Rattle.std.specs.Prelude.{◌==◌, codes}
use Rattle.std.proofs.lemmas.Bool.{eqb-true}
use Rattle.uc_model.specs.Laws.{HasPlanShape}
use Rattle.uc_model.specs.Data.{NamedThermalUnit, NamedRenewableUnit, NamedBidUnit, thermal_names, renewable_names}
use Rattle.uc_model.specs.Data.{bid_names}
use Rattle.uc_model.specs.declared.kinds.Kind.{Kind}
use Rattle.uc_model.specs.declared.kinds.Kind.TheVariants.{Case, Thermal, Renewable, Bid}
use Rattle.uc_text.specs.Values.{Value}
use Rattle.uc_text.specs.Pairs.{Pair}
use Rattle.uc_text.specs.Files.{of_value}
use Rattle.uc_text.specs.Inside.{list_in, object_in, value_under}
use Rattle.uc_text.specs.Words.{◌>>=◌, ◌>>◌, need, position}
use Rattle.uc_plan.specs.Added.{HasLengths, IsFlat, IsShaped}
use Rattle.uc_plan.specs.PlanFiles.{IsPlanOf}
use Rattle.uc_plan.specs.Plans.{shape_site, flag_in, kilowatts_in, numbers, full_list, list_under, ThermalLists}
use Rattle.uc_plan.specs.Plans.{thermal_lists, listed_schedule, thermal_schedule, flat_schedule, schedule, named}
use Rattle.uc_plan.specs.Plans.{schedules, Groups, groups, all_named, all_schedules, plan_of}
use Rattle.uc_plan.specs.Shapes.{fault}
use Rattle.uc_plan.specs.declared.fault.ShapeSite.{ShapeSite}
use Rattle.uc_plan.specs.declared.fault.ShapeCode.TheVariants.{MissingUnit, PlanShape, PlanNumber}
use Rattle.uc_plan.proofs.Joined.{joined_shape}
use Rattle.law_outcome.proofs.TableLaws.{first_gave, then_gave, was_there, both_there, mapped, chosen_if, same_value}
use Rattle.law_outcome.proofs.TableLaws.{all_gave}

-- ---- numbers and lists

abbrev Any : {A : Type 0} → A → Type 0
Any x = Unit {0}

as_many : {A : Type 0} (number : Value → Option A) (at : ShapeSite) (vs : List Value) (xs : List A) →
    numbers number at vs ≡ Ok xs → length xs ≡ length vs
unfolding numbers
as_many {A} number at vs xs e =
    (all_gave (λ (before : List A) (v : Value). need (fault at (position before) PlanNumber) (number v)) Any
    (λ before v x is. tt) vs xs e).1

full : (periods : ℕ) (v : Value) (vs : List Value) → full_list periods v ≡ Some vs → length vs ≡ periods
full periods v vs e =
    let found = both_there (λ (l : List Value). if length l == periods then Some l else None) (list_in v) vs e in
    let chosen = chosen_if (length found.0 == periods) found.0 vs found.2 in
    ap length (sym chosen.1) ∙ eqb-true (length found.0) periods chosen.0

pub full_under : (periods : ℕ) (key : List ℕ) (ms : List Pair) (vs : List Value) → list_under periods key ms ≡ Some vs →
    length vs ≡ periods
full_under periods key ms vs e =
    let found = both_there (full_list periods) (value_under key ms) vs e in full periods found.0 vs found.2

-- ---- a thermal unit

pub record AreLists (periods : ℕ) (l : ThermalLists) : Type 0 where
  pub on : length l.on ≡ periods
  pub power : length l.power ≡ periods
  pub reserve : length l.reserve ≡ periods

pub lists_are_full : (periods : ℕ) (ms : List Pair) (l : ThermalLists) → thermal_lists periods ms ≡ Some l →
    AreLists periods l
unfolding thermal_lists
lists_are_full periods ms l e =
    let on = both_there _ (list_under periods (codes "on") ms) l e in
    let power = both_there _ (list_under periods (codes "power") ms) l on.2 in
    let reserve = mapped _ (list_under periods (codes "reserve") ms) l power.2 in
    subst (AreLists periods) reserve.2 (record {
      on = full_under periods (codes "on") ms on.0 on.1;
      power = full_under periods (codes "power") ms power.0 power.1;
      reserve = full_under periods (codes "reserve") ms reserve.0 reserve.1;
    })

pub listed_lengths : (periods : ℕ) (at : ShapeSite) (l : ThermalLists) (s : Schedule) → AreLists periods l →
    listed_schedule at l ≡ Ok s → HasLengths periods s
unfolding listed_schedule
listed_lengths periods at l s full e =
    let on = first_gave (numbers flag_in at l.on) _ s e in
    let power = first_gave (numbers kilowatts_in at l.power) _ s on.2 in
    let reserve = first_gave (numbers kilowatts_in at l.reserve) _ s power.2 in
    let made : Schedule = record { on = on.0; power = power.0; reserve = reserve.0 } in
    subst (HasLengths periods) (same_value made s reserve.2) (
      as_many flag_in at l.on on.0 on.1 ∙ full.on,
      as_many kilowatts_in at l.power power.0 power.1 ∙ full.power,
      as_many kilowatts_in at l.reserve reserve.0 reserve.1 ∙ full.reserve,
    )

thermal_shaped : (periods : ℕ) (at : ShapeSite) (v : Value) (s : Schedule) → thermal_schedule periods at v ≡ Ok s →
    IsShaped Thermal periods s
unfolding thermal_schedule
thermal_shaped periods at v s e =
    let ms = first_gave (need (fault at 0 PlanShape) (object_in v)) _ s e in
    let lists = first_gave (need (fault at 0 PlanShape) (thermal_lists periods ms.0)) _ s ms.2 in
    let full = lists_are_full periods ms.0 lists.0 (was_there (fault at 0 PlanShape) _ lists.0 lists.1) in
    (listed_lengths periods at lists.0 s full lists.2, tt)

-- ---- a renewable unit or a bid

flat_shaped : (periods : ℕ) (at : ShapeSite) (v : Value) (s : Schedule) → flat_schedule periods at v ≡ Ok s →
    HasLengths periods s × IsFlat s
unfolding flat_schedule
flat_shaped periods at v s e =
    let vs = first_gave (need (fault at 0 PlanShape) (full_list periods v)) _ s e in
    let power = first_gave (numbers kilowatts_in at vs.0) _ s vs.2 in
    let made : Schedule = record { on = replicate periods true; power = power.0; reserve = replicate periods 0 } in
    let long = full periods v vs.0 (was_there (fault at 0 PlanShape) (full_list periods v) vs.0 vs.1) in
    subst (λ (x : Schedule). HasLengths periods x × IsFlat x) (same_value made s power.2) (
      (
        length-replicate periods true,
        as_many kilowatts_in at vs.0 power.0 power.1 ∙ long,
        length-replicate periods 0,
      ),
      (All-replicate IsTrue periods true refl, All-replicate (λ (r : ℕ). r ≡ 0) periods 0 refl),
    )

-- ---- the units of each kind

abbrev IsKind : Kind → Type 0
IsKind Thermal = Unit {0}
IsKind Renewable = Unit {0}
IsKind Bid = Unit {0}
IsKind Case = ⊥

schedule_shaped : (periods : ℕ) (kind : Kind) (unit : ℕ) (v : Value) (s : Schedule) → IsKind kind →
    schedule periods (shape_site kind unit) v ≡ Ok s → IsShaped kind periods s
unfolding schedule
schedule_shaped periods Thermal unit v s is e = thermal_shaped periods (shape_site Thermal unit) v s e
schedule_shaped periods Renewable unit v s is e = flat_shaped periods (shape_site Renewable unit) v s e
schedule_shaped periods Bid unit v s is e = flat_shaped periods (shape_site Bid unit) v s e
schedule_shaped periods Case unit v s is e = absurd is

named_shaped : (periods : ℕ) (kind : Kind) (unit : ℕ) (ms : List Pair) (name : List ℕ) (s : Schedule) → IsKind kind →
    named periods ms (shape_site kind unit) name ≡ Ok s → IsShaped kind periods s
unfolding named
named_shaped periods kind unit ms name s is e =
    let v = first_gave (need (fault (shape_site kind unit) 0 MissingUnit) (value_under name ms)) _ s e in
    schedule_shaped periods kind unit v.0 s is v.2

all_shaped : (periods : ℕ) (kind : Kind) (ms : List Pair) (names : List (List ℕ)) (ss : List Schedule) → IsKind kind →
    schedules periods kind ms names ≡ Ok ss → All (λ (s : Schedule). IsShaped kind periods s) ss ×
    (length ss ≡ length names)
unfolding schedules
all_shaped periods kind ms names ss is e =
    all_gave (λ (before : List Schedule). named periods ms (shape_site kind (position before)))
    (λ (s : Schedule). IsShaped kind periods s)
    (λ before name s read. named_shaped periods kind (position before) ms name s is read) names ss e

-- ---- the plan

joined : (m : Market) (g : Groups) (plan : List Schedule) → all_schedules m g ≡ Ok plan → HasPlanShape m plan
unfolding all_schedules
joined m g plan e =
    let t = first_gave (schedules m.periods Thermal g.thermal (thermal_names m)) _ plan e in
    let r = first_gave (schedules m.periods Renewable g.renewable (renewable_names m)) _ plan t.2 in
    let b = first_gave (schedules m.periods Bid g.bids (bid_names m)) _ plan r.2 in
    let made = same_value (t.0 ++ (r.0 ++ b.0)) plan b.2 in
    let ts = all_shaped m.periods Thermal g.thermal (thermal_names m) t.0 tt t.1 in
    let rs = all_shaped m.periods Renewable g.renewable (renewable_names m) r.0 tt r.1 in
    let bs = all_shaped m.periods Bid g.bids (bid_names m) b.0 tt b.1 in
    subst (HasPlanShape m) made (joined_shape m t.0 r.0 b.0
    (ts.1 ∙ length-map m.thermal (λ (n : NamedThermalUnit). n.name))
    (rs.1 ∙ length-map m.flat (λ (n : NamedRenewableUnit). n.name))
    (bs.1 ∙ length-map m.bids (λ (n : NamedBidUnit). n.name)) ts.0 rs.0 bs.0)

value_shape : (m : Market) (v : Value) (plan : List Schedule) → plan_of m v ≡ Ok plan → HasPlanShape m plan
unfolding plan_of
value_shape m v plan e =
    let g = first_gave (groups (length m.bids) v) _ plan e in
    joined m g.0 plan (then_gave (all_named m g.0) (all_schedules m g.0) plan g.2)

-- a value that was read, of a file
pub of_reading : {A F : Type 0} (r : Result A F) (x : A) → of_value r ≡ Ok x → r ≡ Ok x
of_reading (Ok y) x e = cc
of_reading (Err f) x e = absurd cc

pub plan_shape : (m : Market) (bytes : List ℕ) (plan : List Schedule) → IsPlanOf m bytes (Ok plan) → HasPlanShape m plan
plan_shape m bytes plan (Ok v, file, e) = value_shape m v plan (of_reading (plan_of m v) plan e)
plan_shape m bytes plan (Err f, file, e) = absurd cc
