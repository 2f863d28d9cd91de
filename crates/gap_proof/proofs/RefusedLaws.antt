-- What is refused of a mixture is what keeps it from being one.
use Rattle.gap_proof.proofs.Common.{◌≡◌, ℕ, suc, ◌+◌, ℤ, Some, List, [], ◌∷◌, ◌++◌, map, drop, refl, sym, ap, ◌∙◌}
use Rattle.gap_proof.proofs.Common.{arith, ints, slice_get, All, AllZip, head_of, tail_of, get_or_from_slice_get}
use Rattle.gap_proof.proofs.Common.{ThermalUnit, NamedThermalUnit, Market, IsThermalFeasible, WeighedSchedule}
use Rattle.gap_proof.proofs.Common.{MixtureLists, AreMixed, IsMixture}
use Rattle.std.proofs.Common.{append-nil}
use Rattle.std.proofs.lemmas.List.{drop_more}
use Rattle.std.proofs.lemmas.Bool.{false≢true}
use Rattle.std.proofs.lemmas.Option.{slice_get_within}
use Rattle.std.specs.Prelude.{⊤, Result, Ok, Err, IsOk, ◌↔◌}
use Rattle.plain_lists.proofs.ListLaws.{all_nil, all_cons}
use Rattle.uc_model.specs.Refusals.{Refusal, thermal_refusals}
use Rattle.plan_check.proofs.ThermalLaws.{IsClear-none, none_clear, IsThermalFeasible-clear, IsClear-feasible}
use Rattle.plan_check.proofs.ToldLaws.{append_nil_left, append_nil_right, append_nil, some_first}
use Rattle.gap_proof.specs.MixtureLaws.{MixturesBreakNoRule}
use Rattle.gap_proof.specs.Mixtures.{IsOver, AreEntries, HasMixtureShape}
use Rattle.gap_proof.specs.MixtureRefused.{EntryRefusal, entry_refusals, all_entries, mixture_refusals, FindsEntry}
use Rattle.gap_proof.specs.MixtureRefused.{entry_refusal_of}
use Rattle.gap_proof.specs.declared.mixture_check.EntryFault.{EntryFault}

map_nil : {X Y : Type 0} → (f : X → Y) (xs : List X) → map f xs ≡ [] → xs ≡ []
map_nil f [] e = refl
map_nil f (x ∷ xs) e = cc

-- the rest of a list from an item on
pub drop_from : {X : Type 0} → (xs : List X) (i : ℕ) (x : X) → slice_get xs i ≡ Some x → drop i xs ≡ x ∷ drop (i + 1) xs
drop_from xs i x e = drop_more xs i x (slice_get_within xs i x e) ∙
    ap (λ y. y ∷ drop (i + 1) xs) (get_or_from_slice_get xs i x x e)

-- ---- entry by entry

module _ (periods unit : ℕ) (g : ThermalUnit) where
  abbrev IsOverEntry : WeighedSchedule → Type 0
  IsOverEntry e = IsOver periods e.schedule

  abbrev IsGoodEntry : WeighedSchedule → Type 0
  IsGoodEntry e = IsThermalFeasible g periods e.schedule

  abbrev of_one : ℕ → WeighedSchedule → List EntryRefusal
  of_one first e = map (λ (r : Refusal). record { entry = first; refusal = r })
      (thermal_refusals periods unit g e.schedule)

  -- those of the first entry, and of the others
  pub refusals_split : (first : ℕ) (e : WeighedSchedule) (es : List WeighedSchedule) →
      entry_refusals periods unit g first (e ∷ es) ≡ entry_refusals periods unit g first (e ∷ []) ++ entry_refusals
      periods unit g (suc first) es
  refusals_split first e es =
      ap (λ l. l ++ entry_refusals periods unit g (suc first) es) (sym (append-nil (of_one first e)))

  pub feasible_entries : (first : ℕ) (es : List WeighedSchedule) → All IsOverEntry es →
      entry_refusals periods unit g first es ≡ [] → All IsGoodEntry es
  feasible_entries first [] over none = all_nil IsGoodEntry
  feasible_entries first (e ∷ es) over none =
      let o = head_of IsOverEntry e es over in
      let here = map_nil _ _ (append_nil_left (of_one first e) (entry_refusals periods unit g (suc first) es) none) in
      all_cons IsGoodEntry e es (IsThermalFeasible-clear periods g e.schedule o.on o.power o.reserve
      (IsClear-none periods unit g e.schedule here))
      (feasible_entries (suc first) es (tail_of IsOverEntry e es over)
      (append_nil_right (of_one first e) (entry_refusals periods unit g (suc first) es) none))

  pub none_of_feasible : (first : ℕ) (es : List WeighedSchedule) → All IsGoodEntry es →
      entry_refusals periods unit g first es ≡ []
  none_of_feasible first [] good = refl
  none_of_feasible first (e ∷ es) good =
      let here = head_of IsGoodEntry e es good in
      let s = here.schedule in
      let clear = none_clear periods unit g e.schedule
      (IsClear-feasible periods g e.schedule s.on s.power s.reserve here) in
      append_nil (of_one first e) (entry_refusals periods unit g (suc first) es)
      (ap (map (λ (r : Refusal). record { entry = first; refusal = r })) clear)
      (none_of_feasible (suc first) es (tail_of IsGoodEntry e es good))

-- ---- unit by unit

module _ (periods : ℕ) (whole : ℤ) where
  abbrev Shaped : NamedThermalUnit → List WeighedSchedule → Type 0
  Shaped n es = AreEntries periods whole es

  abbrev Mixed : NamedThermalUnit → List WeighedSchedule → Type 0
  Mixed n es = AreMixed periods whole n.unit es

  mixed_from : (first : ℕ) (ns : List NamedThermalUnit) (ess : List (List WeighedSchedule)) → AllZip Shaped ns ess →
      all_entries periods first ns ess ≡ [] → AllZip Mixed ns ess
  mixed_from first [] [] shape none = tt
  mixed_from first [] (es ∷ ess) shape none = absurd shape
  mixed_from first (n ∷ ns) [] shape none = absurd shape
  mixed_from first (n ∷ ns) (es ∷ ess) shape none =
      let here = append_nil_left (entry_refusals periods first n.unit 1 es) (all_entries periods (suc first) ns ess)
      none in
      let behind = append_nil_right (entry_refusals periods first n.unit 1 es) (all_entries periods (suc first) ns ess)
      none in (
        record { shares = shape.0.shares; feasible = feasible_entries periods first n.unit 1 es shape.0.over here },
        mixed_from (suc first) ns ess shape.1 behind,
      )

  none_of_mixed : (first : ℕ) (ns : List NamedThermalUnit) (ess : List (List WeighedSchedule)) → AllZip Mixed ns ess →
      all_entries periods first ns ess ≡ []
  none_of_mixed first [] [] mixed = refl
  none_of_mixed first [] (es ∷ ess) mixed = absurd mixed
  none_of_mixed first (n ∷ ns) [] mixed = absurd mixed
  none_of_mixed first (n ∷ ns) (es ∷ ess) mixed =
      append_nil (entry_refusals periods first n.unit 1 es) (all_entries periods (suc first) ns ess)
      (none_of_feasible periods first n.unit 1 es mixed.0.feasible) (none_of_mixed (suc first) ns ess mixed.1)

-- ---- a check of all

pub none_refused : MixturesBreakNoRule
none_refused m x mixture = none_of_mixed m.periods x.whole 1 m.thermal x.entries mixture.mixed

pub checked : (m : Market) (x : MixtureLists) (found : Result ⊤ EntryFault) → HasMixtureShape m x →
    FindsEntry (mixture_refusals m x) found → (IsOk found ↔ IsMixture m x)
checked m x (Ok u) shape none =
    let low = shape.whole.at_least in (
      λ ok. record {
        some = omega (arith, ints, low);
        mixed =
            mixed_from m.periods x.whole 1 m.thermal x.entries shape.entries none;
      },
      λ mixture. refl,
    )
checked m x (Err f) shape first = (
  λ ok. absurd (false≢true ok),
  λ mixture. absurd
      (some_first (mixture_refusals m x) (entry_refusal_of f) first (none_refused m x mixture)),
)
