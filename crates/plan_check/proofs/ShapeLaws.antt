-- What the shape of a plan and the limits of a case say of one unit with its schedule.
use Rattle.plan_check.proofs.Common.{ℕ, ◌<◌, List, map, length, subst, arith, All, length-map, get_or-map, Response}
use Rattle.plan_check.proofs.Common.{schedule_of}
use Rattle.plan_check.proofs.PlanLaws.{HasLengths}

-- each response of a plan covers the horizon
pub covers : (responses : List Response) (periods index : ℕ) → All (HasLengths periods) (map schedule_of responses) →
    index < periods → All (λ (r : Response). index < length (schedule_of r).on) responses
covers rs periods index lengths lt = λ k d k_in.
    let count = length-map rs schedule_of in
    let item = get_or-map schedule_of rs k d (schedule_of d) k_in in
    let l = subst (HasLengths periods) item (lengths k (schedule_of d) (omega (arith, count, k_in))) in
    omega (arith, lt)
