-- What is read of a mixture's file has weights that sum to the whole, and schedules over the horizon; and where no
-- schedule of it breaks a rule, it is a mixture.
use Rattle.law_outcome.proofs.Common.{◌≡◌, ℕ, ℤ, pos, ◌≤ℤ◌, Bool, true, false, List, [], ◌∷◌, length, Option, None}
use Rattle.law_outcome.proofs.Common.{Some, Result}
use Rattle.law_outcome.proofs.Common.{Ok, Err, refl, ap, ◌∙◌, subst, arith, All, Market, Schedule, length-map}
use Rattle.law_outcome.proofs.Common.{nat_lt, if◌then◌else◌, unsigned_abs, MixtureLists, IsMixture}
use Rattle.std.proofs.Common.{map}
use Rattle.std.proofs.lemmas.Bool.Decides.{Decides-int_eq}
use Rattle.std.proofs.lemmas.Int.{ints}
use Rattle.std.proofs.lemmas.List.Elements.{All-weaker}
use Rattle.std.specs.Prelude.{not, int_lt, codes, ⊤}
use Rattle.std.specs.Option.{option_zip}
use Rattle.std.specs.Ordering.{int_eq}
use Rattle.gap_proof.specs.Mixtures.{WeighedSchedule, AreEntries, IsOver, HasMixtureShape, most_whole}
use Rattle.gap_proof.specs.MixtureRefused.{mixture_refusals}
use Rattle.gap_proof.proofs.RefusedLaws.{checked}
use Rattle.plain_lists.specs.Ranges.{IsFrom}
use Rattle.text_tokens.specs.Rounding.{rounded}
use Rattle.text_tokens.specs.declared.decimal.Decimal.{Decimal}
use Rattle.uc_model.specs.Data.{NamedThermalUnit, thermal_names}
use Rattle.uc_model.specs.declared.kinds.Kind.TheVariants.{Thermal}
use Rattle.uc_text.specs.Values.{Value}
use Rattle.uc_text.specs.Pairs.{Pair}
use Rattle.uc_text.specs.Inside.{number_in, object_in, value_under, is_whole}
use Rattle.uc_text.specs.Words.{◌>>=◌, ◌>>◌, need, position}
use Rattle.uc_plan.specs.Plans.{ThermalLists, thermal_lists, listed_schedule, all_known}
use Rattle.uc_plan.specs.declared.fault.ShapeCode.TheVariants.{MissingUnit, PlanShape}
use Rattle.uc_plan.specs.declared.fault.ShapeFault.{ShapeFault}
use Rattle.uc_mixture.specs.Faults.{site_of_file, site_of_unit, entry_at, shape_site_of, fault, within}
use Rattle.uc_mixture.specs.MixtureFiles.{IsMixtureFileOf}
use Rattle.uc_mixture.specs.Tables.{weight_of, weight_in, weight_sum, entry_parts, weighed, entry, entries, some_list}
use Rattle.uc_mixture.specs.Tables.{unit_entries, named, units, Head, head_parts, head, frame_of, mixture_in}
use Rattle.uc_mixture.specs.declared.entries.Frame.{Frame}
use Rattle.uc_mixture.specs.declared.fault.ShareCode.TheVariants.{Shape, Weight}
use Rattle.uc_mixture.specs.declared.fault.ShareSite.{ShareSite}
use Rattle.uc_mixture.proofs.Shapes.{zipped}
use Rattle.uc_mixture.proofs.WeightLaws as weights
use Rattle.law_outcome.proofs.TableLaws.{first_gave, then_gave, passed, was_there, both_there, all_gave, same_value}
use Rattle.law_outcome.proofs.PlanShapes.{lists_are_full, listed_lengths, of_reading}

-- ---- weights

weight_from : (least most : ℤ) (d : Decimal) (w : ℤ) → pos 0 ≤ℤ least → pos 0 ≤ℤ most →
    weight_of least most d ≡ Some w → IsFrom least most w
weight_from least most d w low high e =
    by_tests (is_whole d) (nat_lt (unsigned_abs most) (unsigned_abs (rounded d 0))) (int_lt (rounded d 0) least) refl
    refl e
  where
    by_tests : (a b c : Bool) → nat_lt (unsigned_abs most) (unsigned_abs (rounded d 0)) ≡ b →
        int_lt (rounded d 0) least ≡ c → (if not a then None else if b then None else if c then None else Some (rounded
        d 0)) ≡ Some w → IsFrom least most w
    by_tests false b c p q e = absurd cc
    by_tests true true c p q e = absurd cc
    by_tests true false true p q e = absurd cc
    by_tests true false false p q e =
        let same : rounded d 0 ≡ w = cc in
        subst (IsFrom least most) same (weights.within least most (rounded d 0) low high p q)

weight_within : (least most : ℤ) (v : Value) (w : ℤ) → pos 0 ≤ℤ least → pos 0 ≤ℤ most →
    weight_in least most v ≡ Some w → IsFrom least most w
weight_within least most v w low high e =
    let d = both_there (weight_of least most) (number_in v) w e in weight_from least most d.0 w low high d.2

-- ---- entries

pub record IsRead (frame : Frame) (e : WeighedSchedule) : Type 0 where
  pub weight : pos 0 ≤ℤ e.weight
  pub over : IsOver frame.periods e.schedule

within_gave : {A : Type 0} (n : ℕ) (r : Result A ShapeFault) (x : A) → within n r ≡ Ok x → r ≡ Ok x
within_gave n (Ok y) x e = cc
within_gave n (Err f) x e = absurd cc

module _ (frame : Frame) (some : pos 0 ≤ℤ frame.whole) where
  weighed_read : (at : ShareSite) (heavy : Value) (ms : List Pair) (lists : ThermalLists) (e : WeighedSchedule) →
      thermal_lists frame.periods ms ≡ Some lists → weighed frame at heavy lists ≡ Ok e → IsRead frame e
  unfolding weighed
  weighed_read at heavy ms lists e there read =
      let w = first_gave (need (fault at Weight) (weight_in (pos 0) frame.whole heavy)) _ e read in
      let s = first_gave (within at.entry (listed_schedule (shape_site_of at) lists)) _ e w.2 in
      let low = weight_within (pos 0) frame.whole heavy w.0 (omega (arith, ints)) some
      (was_there (fault at Weight) (weight_in (pos 0) frame.whole heavy) w.0 w.1) in
      let long = listed_lengths frame.periods (shape_site_of at) lists s.0 (lists_are_full frame.periods ms lists there)
      (within_gave at.entry (listed_schedule (shape_site_of at) lists) s.0 s.1) in
      let made : WeighedSchedule = record { weight = w.0; schedule = s.0 } in
      subst (IsRead frame) (same_value made e s.2) (record {
        weight = low.at_least;
        over = record { on = long.0; power = long.1; reserve = long.2 };
      })

  lists_in : (periods : ℕ) (ms : List Pair) (p : Value × ThermalLists) → entry_parts periods ms ≡ Some p →
      thermal_lists periods ms ≡ Some p.1
  lists_in periods ms p e = by_parts (value_under (codes "weight") ms) (thermal_lists periods ms) e
    where
      by_parts : (a : Option Value) (b : Option ThermalLists) → option_zip a b ≡ Some p → b ≡ Some p.1
      by_parts (Some x) (Some y) e = let same : (x, y) ≡ p = cc in ap Some (ap (λ (q : Value × ThermalLists). q.1) same)
      by_parts (Some x) None e = absurd cc
      by_parts None b e = absurd cc

  entry_read : (at : ShareSite) (v : Value) (e : WeighedSchedule) → entry frame at v ≡ Ok e → IsRead frame e
  unfolding entry
  entry_read at v e read =
      let ms = first_gave (need (fault at (Shape PlanShape)) (object_in v)) _ e read in
      let parts = first_gave (need (fault at (Shape PlanShape)) (entry_parts frame.periods ms.0)) _ e ms.2 in
      let there = lists_in frame.periods ms.0 parts.0
      (was_there (fault at (Shape PlanShape)) (entry_parts frame.periods ms.0) parts.0 parts.1) in
      weighed_read at parts.0.0 ms.0 parts.0.1 e there parts.2

  entries_read : (at : ShareSite) (vs : List Value) (es : List WeighedSchedule) → entries frame at vs ≡ Ok es →
      All (IsRead frame) es
  unfolding entries
  entries_read at vs es read =
      (all_gave (λ (before : List WeighedSchedule). entry frame (entry_at at (position before))) (IsRead frame)
      (λ before v e is. entry_read (entry_at at (position before)) v e is) vs es read).0

  same_number : (a b : ℤ) → not (int_eq a b) ≡ false → a ≡ b
  same_number a b e = by_flag (int_eq a b) refl e
    where
      by_flag : (t : Bool) → int_eq a b ≡ t → not t ≡ false → a ≡ b
      by_flag true is e = (Decides-int_eq a b).0 is
      by_flag false is e = absurd cc

  unit_read : (at : ShareSite) (v : Value) (es : List WeighedSchedule) → unit_entries frame at v ≡ Ok es →
      AreEntries frame.periods frame.whole es
  unfolding unit_entries
  unit_read at v es read =
      let vs = first_gave (need (fault at (Shape PlanShape)) (some_list v)) _ es read in
      let found = first_gave (entries frame at vs.0) _ es vs.2 in
      let summed = passed (fault at Weight) (not (int_eq (weight_sum found.0) frame.whole)) (Ok found.0) es found.2 in
      let same = same_value found.0 es summed.1 in
      let all = entries_read at vs.0 found.0 found.1 in
      subst (AreEntries frame.periods frame.whole) same (record {
        shares = record {
          from_zero = All-weaker (IsRead frame) (λ (e : WeighedSchedule). pos 0 ≤ℤ e.weight) (λ e is. is.weight) found.0
              all;
          whole_is = same_number (weight_sum found.0) frame.whole summed.0;
        };
        over = All-weaker (IsRead frame) (λ (e : WeighedSchedule). IsOver frame.periods e.schedule) (λ e is. is.over)
            found.0 all;
      })

  named_read : (ms : List Pair) (at : ShareSite) (name : List ℕ) (es : List WeighedSchedule) →
      named frame ms at name ≡ Ok es → AreEntries frame.periods frame.whole es
  unfolding named
  named_read ms at name es read =
      let v = first_gave (need (fault at (Shape MissingUnit)) (value_under name ms)) _ es read in
      unit_read at v.0 es v.2

  units_read : (ms : List Pair) (names : List (List ℕ)) (ess : List (List WeighedSchedule)) →
      units frame ms names ≡ Ok ess → All (AreEntries frame.periods frame.whole) ess × (length ess ≡ length names)
  unfolding units
  units_read ms names ess read =
      all_gave (λ (before : List (List WeighedSchedule)). named frame ms (site_of_unit (position before)))
      (AreEntries frame.periods frame.whole)
      (λ before name es is. named_read ms (site_of_unit (position before)) name es is) names ess read

-- ---- the mixture

head_whole : (v : Value) (h : Head) → head v ≡ Ok h → IsFrom (pos 1) most_whole h.whole
unfolding head
head_whole v h e =
    let ms = first_gave (need (fault site_of_file (Shape PlanShape)) (object_in v)) _ h e in
    let parts = first_gave (need (fault site_of_file (Shape PlanShape)) (head_parts ms.0)) _ h ms.2 in
    let w = first_gave (need (fault site_of_file Weight) (weight_in (pos 1) most_whole parts.0.0)) _ h parts.2 in
    let made : Head = record { whole = w.0; thermal = parts.0.1 } in
    subst (λ (x : Head). IsFrom (pos 1) most_whole x.whole) (same_value made h w.2)
    (weight_within (pos 1) most_whole parts.0.0 w.0 (omega (arith, ints)) (omega (arith, ints))
    (was_there (fault site_of_file Weight) (weight_in (pos 1) most_whole parts.0.0) w.0 w.1))

value_shape : (m : Market) (v : Value) (x : MixtureLists) → mixture_in m v ≡ Ok x → HasMixtureShape m x
unfolding mixture_in
value_shape m v x e =
    let h = first_gave (head v) _ x e in
    let after = then_gave (within 0 (all_known Thermal (thermal_names m) h.0.thermal)) _ x h.2 in
    let es = first_gave (units (frame_of m h.0) h.0.thermal (thermal_names m)) _ x after in
    let made : MixtureLists = record { whole = h.0.whole; entries = es.0 } in
    let whole = head_whole v h.0 h.1 in
    let low = whole.at_least in
    let all = units_read (frame_of m h.0) (omega (arith, ints, low)) h.0.thermal (thermal_names m) es.0 es.1 in
    subst (HasMixtureShape m) (same_value made x es.2) (record {
      whole = whole;
      entries = zipped (AreEntries m.periods h.0.whole) m.thermal es.0
          (all.1 ∙ length-map m.thermal (λ (n : NamedThermalUnit). n.name)) all.0;
    })

pub mixture_shape : (m : Market) (bytes : List ℕ) (x : MixtureLists) → IsMixtureFileOf m bytes (Ok x) →
    HasMixtureShape m x
mixture_shape m bytes x (Ok v, file, e) = value_shape m v x (of_reading (mixture_in m v) x e)
mixture_shape m bytes x (Err f, file, e) = absurd cc

pub unbroken : (m : Market) (x : MixtureLists) → HasMixtureShape m x → mixture_refusals m x ≡ [] → IsMixture m x
unbroken m x shape none = (checked m x (Ok tt) shape none).0 refl
