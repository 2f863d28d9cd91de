-- What a check of a list of refusals answers.
use Rattle.std.specs.Prelude.{◌≡◌, ⊤, Result, MatchResult, List, [], Some, slice_get}
use Rattle.plan_check.specs.declared.RuleFault.{RuleFault}
use Rattle.uc_model.specs.Refusals.{Refusal}

abbrev pub refusal_of : RuleFault → Refusal
refusal_of f =
    record {
      rule = f.code;
      kind = f.kind;
      unit = f.unit;
      period = f.period;
      left = f.left;
      right = f.right;
    }

-- the first refusal, or nothing where there is none
abbrev pub Finds : List Refusal → Result ⊤ RuleFault → Type 0
Finds refusals found =
    MatchResult found (λ _. refusals ≡ []) (λ f. slice_get refusals 0 ≡ Some (refusal_of f))
