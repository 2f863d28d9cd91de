-- A call that changes nothing was answered at what is then seen.
use Rattle.board_share.proofs.Common.{◌≡◌, ℕ, List, refl, subst, sym, ap, ◌∙◌, Answer, Content, rules_of, differs_from}
use Rattle.board_share.proofs.Common.{claim_answer, after_claim, post_answer, after_post, ClaimReply, Finished, Halted}
use Rattle.board_share.proofs.Common.{GivenTask, NotYet, PostReply, OtherProposal, OtherUnit, OtherContent, Doubled}
use Rattle.board_share.proofs.Common.{OtherHolder, TakenPost, claim_reply, post_reply, post_event, posts, with_claim}
use Rattle.board_share.proofs.Common.{with_answer, AnyUnit, PriceLists, claim_of, posted_of, LeavesTask, Called}
use Rattle.board_share.proofs.Common.{UnlessGiven, UnlessTaken, BoardEvent, content, View}
use Rattle.board_store.specs.TaskDifference.{Difference}
use Rattle.uc_model.specs.declared.cases.Task.{Task}
use Rattle.board_core.specs.declared.replies.Claim.{Claim}
use Rattle.board_core.specs.declared.replies.Claim.TheVariants as claim
use Rattle.board_core.specs.declared.replies.Posted.{Posted}
use Rattle.board_core.specs.declared.replies.Posted.TheVariants as posted

-- where the call makes no event, the board that answers is the one that is then seen
still : (tells : Content → Type 0) (after : Content → Content) (v w : View) (q : Called tells after v w) →
    (after (content v.setup q.before)).events ≡ q.before → tells (content w.setup w.seen)
still tells after v w q none =
    let seen : w.seen ≡ q.before = ap (λ (x : View). x.seen) q.seen ∙ none in
    let setup : w.setup ≡ v.setup = ap (λ (x : View). x.setup) q.seen in
    subst tells (λ i. content (sym setup i) (sym seen i)) q.answered

unless_given : (r : Claim) (P Q : Type 0) → (P → Q) → UnlessGiven r P → UnlessGiven r Q
unless_given claim.Finished P Q f p = f p
unless_given claim.Halted P Q f p = f p
unless_given claim.Given P Q f p = p
unless_given claim.NotYet P Q f p = f p

no_claim : (h : List BoardEvent) (c : ℕ) (x : ClaimReply) → UnlessGiven (claim_of x) (with_claim h c x ≡ h)
no_claim h c Finished = refl
no_claim h c Halted = refl
no_claim h c (GivenTask n u) = tt
no_claim h c NotYet = refl

pub claim_seen : (c : ℕ) (v w : View) (r : Claim) (old new : Task) →
    Called (λ b. (r ≡ claim_of (claim_answer b)) × LeavesTask b (claim_answer b) old new) (λ b. after_claim b c) v w
    → UnlessGiven r (r ≡ claim_of (claim_answer (content w.setup w.seen)))
claim_seen c v w r old new q =
    let b : Content = content v.setup q.before in
    let none : UnlessGiven r ((after_claim b c).events ≡ q.before) =
    subst (λ (z : Claim). UnlessGiven z ((after_claim b c).events ≡ q.before)) (sym q.answered.0)
    (no_claim q.before c (claim_reply (rules_of v.setup) q.before)) in
    unless_given r ((after_claim b c).events ≡ q.before) (r ≡ claim_of (claim_answer (content w.setup w.seen)))
    (λ is. (still (λ b. (r ≡ claim_of (claim_answer b)) × LeavesTask b (claim_answer b) old new) (λ b. after_claim b c)
    v w q is).0) none

unless_taken : (r : Posted) (P Q : Type 0) → (P → Q) → UnlessTaken r P → UnlessTaken r Q
unless_taken (posted.Stranger d) P Q f p = f p
unless_taken (posted.Doubled k) P Q f p = f p
unless_taken (posted.Taken closed) P Q f p = p

no_post : (h : List BoardEvent) (e : BoardEvent) (x : PostReply Difference) →
    UnlessTaken (posted_of x) (with_answer h e x ≡ h)
no_post h e (OtherProposal n o) = refl
no_post h e (OtherUnit u m) = refl
no_post h e (OtherContent d) = refl
no_post h e (Doubled k) = refl
no_post h e (OtherHolder c d) = refl
no_post h e (TakenPost closed) = tt

pub post_seen : (c n u : ℕ) (ρ : PriceLists) (x : AnyUnit) (a : Answer) (v w : View) (r : Posted) →
    Called (λ b. r ≡ posted_of (post_answer b c n u ρ x a)) (λ b. after_post b c n u ρ x a) v w
    → UnlessTaken r (r ≡ posted_of (post_answer (content w.setup w.seen) c n u ρ x a))
post_seen c n u ρ x a v w r q =
    let b : Content = content v.setup q.before in
    let none : UnlessTaken r ((after_post b c n u ρ x a).events ≡ q.before) =
    subst (λ (z : Posted). UnlessTaken z ((after_post b c n u ρ x a).events ≡ q.before)) (sym q.answered)
    (no_post q.before (post_event (rules_of v.setup) (posts q.before) c n u a)
    (post_reply (rules_of v.setup) q.before (differs_from v.setup u ρ x) c n u a)) in
    unless_taken r ((after_post b c n u ρ x a).events ≡ q.before)
    (r ≡ posted_of (post_answer (content w.setup w.seen) c n u ρ x a))
    (λ is. still (λ b. r ≡ posted_of (post_answer b c n u ρ x a)) (λ b. after_post b c n u ρ x a) v w q is) none
