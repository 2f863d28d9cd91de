-- What the answer of a claim tells.
use Rattle.answer_workers.proofs.Common.{◌≡◌, ℕ, refl, sym, ap, ◌∙◌, subst, Content, claim_answer, ClaimReply, Finished}
use Rattle.answer_workers.proofs.Common.{Halted, GivenTask, NotYet, view_of, Called, View, content, Market, units}
use Rattle.answer_workers.proofs.Common.{task_unit, IsFeasible, Task, Contains, slice_get_within, get_or_from_slice_get}
use Rattle.answer_workers.proofs.Common.{IsTold, IsAnswerable, market_at, Worker}
use Rattle.board_store.specs.Laws.{ClaimAnswersTellBoardState}
use Rattle.board_core.specs.Replies.{claim_of}
use Rattle.board_core.specs.Tasks.{IsOwnTask, LeavesTask}
use Rattle.board_core.specs.declared.replies.Claim.{Claim}
use Rattle.board_core.specs.declared.replies.Claim.TheVariants as claim
use Rattle.board_share.specs.Unchanged.{UnlessGiven}

-- ---- which reply it was

finished_is : (x : ClaimReply) → claim.Finished ≡ claim_of x → x ≡ Finished
finished_is Finished e = cc
finished_is Halted e = absurd cc
finished_is (GivenTask n u) e = absurd cc
finished_is NotYet e = absurd cc

halted_is : (x : ClaimReply) → claim.Halted ≡ claim_of x → x ≡ Halted
halted_is Finished e = absurd cc
halted_is Halted e = cc
halted_is (GivenTask n u) e = absurd cc
halted_is NotYet e = absurd cc

-- the task that was given is the board's own
given_task : (b : Content) (x : ClaimReply) (before task : Task) → claim.Given ≡ claim_of x →
    LeavesTask b x before task → (n : ℕ) × (u : ℕ) × IsOwnTask b n u task
given_task b Finished before task e leaves = absurd cc
given_task b Halted before task e leaves = absurd cc
given_task b (GivenTask n u) before task e leaves = (n, u, leaves)
given_task b NotYet before task e leaves = absurd cc

-- ---- what it tells

abbrev Tells : Claim → Task → Task → Content → Type 0
Tells r before task b = (r ≡ claim_of (claim_answer b)) × LeavesTask b (claim_answer b) before task

-- a board's own task has an answer in each market that is the board's
answerable : (m : Market) (b : Content) (n u : ℕ) (t : Task) → b.setup.market ≡ m → IsOwnTask b n u t → IsAnswerable m t
answerable m b n u t same own =
    let us = units b.setup.market in
    let x = task_unit t in record {
      unit = subst (λ (k : Market). Contains (units k) x) same
          (u, slice_get_within us u x own.unit, get_or_from_slice_get us u x x own.unit);
      some = (own.some_schedule, subst (λ (k : Market). IsFeasible x k.periods own.some_schedule) same own.feasible);
    }

ready : (r : Claim) (before : Task) (after : Content → Content) (v : View) (w : Worker) →
    Called (Tells r before w.task) after v (view_of w.seat) → r ≡ claim.Given → IsAnswerable (market_at w.seat) w.task
ready r before after v w c given =
    let b : Content = content v.setup c.before in
    let own = given_task b (claim_answer b) before w.task (sym given ∙ c.answered.0) c.answered.1 in
    answerable (market_at w.seat) b own.0 own.1 w.task (sym (ap (λ (x : View). x.setup.market) c.seen)) own.2

pub told : ClaimAnswersTellBoardState → (r : Claim) (before : Task) (after : Content → Content) (v : View) (w : Worker)
    →
    Called (Tells r before w.task) after v (view_of w.seat)
    → UnlessGiven r (r ≡ claim_of (claim_answer (content (view_of w.seat).setup (view_of w.seat).seen))) → IsTold r w
told mean claim.Finished before after v w c at =
    (mean (view_of w.seat).setup (view_of w.seat).seen).finished.0
    (finished_is (claim_answer (content (view_of w.seat).setup (view_of w.seat).seen)) at)
told mean claim.Halted before after v w c at =
    ((mean (view_of w.seat).setup (view_of w.seat).seen).halted.0
    (halted_is (claim_answer (content (view_of w.seat).setup (view_of w.seat).seen)) at)).1
told mean claim.Given before after v w c at = ready claim.Given before after v w c refl
told mean claim.NotYet before after v w c at = tt
