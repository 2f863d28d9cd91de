-- What exists: a settlement at any prices, and something that is due on whatever was read. Each law
-- is the clause of a public function of its name.
use Rattle.std.specs.Prelude.{◌≡◌, ℕ, List, length, Result}
use Rattle.uc_model.specs.Data.{PriceLists, Schedule, Market}
use Rattle.uc_model.specs.Systems.{IsFeasiblePlan}
use Rattle.price_settle.specs.Settled.{Settled, IsSettledAt}
use Rattle.hull_words.specs.Words.{words_of}
use Rattle.hull_fault.specs.declared.fault.TopFault.{TopFault}
use Rattle.hull_input.specs.Files.{Reads}
use Rattle.hull_input.specs.Planned.{PlannedCase}
use Rattle.hull_command.specs.Outcome.{command_for}

-- a feasible plan has a settlement at any prices over the horizon, and by `plan_has_at_most_one_settlement` of
-- price_settle just one
abbrev pub SettlementsExist : Type 0
SettlementsExist =
    (m : Market) (plan : List Schedule) (π : PriceLists) → IsFeasiblePlan m plan →
    length π.energy ≡ m.periods → (s : Settled) × IsSettledAt m plan π s

-- Whatever the words and whatever was read of the files, there is an accepted input or a first
-- refusal, and by `one_thing_is_due` just one. So a run that did what is due did something.
abbrev pub SomethingIsDue : Type 0
SomethingIsDue =
    (words : List (List ℕ)) (reads : Reads) →
    (due : Result PlannedCase TopFault) × (command_for (words_of words)).IsDue reads due
