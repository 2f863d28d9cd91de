-- What no mixture breaks, and what payments sum to at least where a bound holds. The law is the
-- clause of a public function of its name.
use Rattle.std.specs.Prelude.{◌≡◌, ℤ, pos, ◌-ℤ◌, []}
use Rattle.std.specs.Int.{int_max}
use Rattle.uc_model.specs.Data.{Market}
use Rattle.gap_proof.specs.Mixtures.{MixtureLists, IsMixture}
use Rattle.gap_proof.specs.MixtureRefused.{mixture_refusals}

-- schedules that are feasible break no rule, so a check that answers exactly what is refused
-- refuses no mixture
abbrev pub MixturesBreakNoRule : Type 0
MixturesBreakNoRule =
    (m : Market) (x : MixtureLists) → IsMixture m x → mixture_refusals m x ≡ []

-- what payments and surplus sum to at least, at a cost and a bound on the dual value
abbrev pub least_paid : ℤ → ℤ → ℤ
least_paid cost bound = int_max (pos 0) (cost -ℤ bound)
