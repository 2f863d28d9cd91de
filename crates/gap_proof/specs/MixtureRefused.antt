-- Why a mixture isn't one: the rules that its entries break, in the order in which they are told
-- (this project's profile).
use Rattle.std.specs.Prelude.{◌≡◌, ⊤, ℕ, suc, List, [], ◌∷◌, ◌++◌, map, Result, MatchResult, Some}
use Rattle.std.specs.Prelude.{slice_get}
use Rattle.plan_check.specs.Checks.{refusal_of}
use Rattle.uc_model.specs.Data.{ThermalUnit, NamedThermalUnit, Market}
use Rattle.uc_model.specs.Refusals.{Refusal, thermal_refusals}
use Rattle.gap_proof.specs.declared.mixture_check.EntryFault.{EntryFault}
use Rattle.gap_proof.specs.Mixtures.{WeighedSchedule, MixtureLists}

-- a rule that an entry breaks; entries count from 1 within their unit
pub record EntryRefusal : Type 0 where
  pub entry : ℕ
  pub refusal : Refusal

abbrev pub entry_refusal_of : EntryFault → EntryRefusal
entry_refusal_of f = record { entry = f.entry; refusal = refusal_of f.fault }

-- what the entries of a unit break, where entries count from first
abbrev pub entry_refusals : ℕ → ℕ → ThermalUnit → ℕ → List WeighedSchedule → List EntryRefusal
entry_refusals periods unit g first [] = []
entry_refusals periods unit g first (e ∷ es) =
    map (λ (r : Refusal). record { entry = first; refusal = r })
    (thermal_refusals periods unit g e.schedule)
    ++ entry_refusals periods unit g (suc first) es

-- what the entries of all units break, where units count from first
abbrev pub all_entries : ℕ → ℕ → List NamedThermalUnit → List (List WeighedSchedule) →
    List EntryRefusal
all_entries periods first [] ess = []
all_entries periods first (n ∷ ns) [] = []
all_entries periods first (n ∷ ns) (es ∷ ess) =
    entry_refusals periods first n.unit 1 es ++ all_entries periods (suc first) ns ess

-- the refusals of a mixture; the first one is told
abbrev pub mixture_refusals : Market → MixtureLists → List EntryRefusal
mixture_refusals m x = all_entries m.periods 1 m.thermal x.entries

-- a check finds the first of some refusals, or nothing where there is none
abbrev pub FindsEntry : List EntryRefusal → Result ⊤ EntryFault → Type 0
FindsEntry refusals found =
    MatchResult found (λ _. refusals ≡ [])
    (λ f. slice_get refusals 0 ≡ Some (entry_refusal_of f))
