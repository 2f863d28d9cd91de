-- The steps of one call, put together.
use Rattle.board_share.proofs.Common.{◌≡◌, ℕ, Bool, true, false, cond, inl, inr, List, [], ◌∷◌, ◌++◌, length, refl}
use Rattle.board_share.proofs.Common.{subst, sym, ap, ◌∙◌, length-map, rest, Answer, Content, rules_of, differs_from}
use Rattle.board_share.proofs.Common.{after_claim, after_post, after_halt, Entry, Given, Taken, Closing, Stopped}
use Rattle.board_share.proofs.Common.{is_halt_of, ClaimReply, Finished, Halted, GivenTask, NotYet, PostReply}
use Rattle.board_share.proofs.Common.{OtherProposal, OtherUnit, OtherContent, Doubled, OtherHolder, TakenPost}
use Rattle.board_share.proofs.Common.{claim_reply, post_reply, post_event, posts, with_post, is_closed, with_claim}
use Rattle.board_share.proofs.Common.{with_answer, AnyUnit, PriceLists, BoardEvent, caller_of, content, idle, waits}
use Rattle.board_share.proofs.Common.{View, at_stage, Sees, Mine, HasTaken, Follows, Called, OnlyMade, IsLegalHistory}
use Rattle.std.specs.List.{list_any}
use Rattle.board_store.specs.Entries.{entry_of, entries_of}

calls : (tells : Content → Type 0) (after : Content → Content) (m0 m1 m2 m3 : Mine) (t : ℕ) (b b' : Content) →
    m0.0.stage ≡ idle → m1.0 ≡ at_stage m0.0 (waits t) → HasTaken m1 m2 b
    → tells b → b' ≡ after b → m3 ≡ (record m2.0 { seen = b'.events; stage = idle }, []) → Called tells after m0.0 m3.0
calls tells after m0 m1 m2 m3 t b b' st drawn taken told went given =
    let sees : Sees (at_stage m0.0 (waits t)) b.events = subst (λ (x : View). Sees x b.events) drawn taken.0.0 in
    let setup : b.setup ≡ m0.0.setup = taken.1 ∙ ap (λ (x : View). x.setup) drawn in
    let is : b ≡ content m0.0.setup b.events = λ i. content (setup i) b.events in
    let seen : b'.events ≡ (after (content m0.0.setup b.events)).events =
    ap (λ (x : Content). x.events) (went ∙ ap after is) in
    let v3 : m3.0 ≡ record m2.0 { seen = b'.events; stage = idle } = ap (λ (x : Mine). x.0) given in
    let v2 = taken.2.1 in record {
      before = b.events;
      sees = record { rest = sees.rest; whole = sees.whole; past = sees.past };
      only_made = subst (λ (x : View). OnlyMade x b.events) drawn taken.0.1;
      answered = subst tells is told;
      seen = v3 ∙ (ap (λ (x : View). let y : View = record x { seen = b'.events; stage = idle } in y) v2 ∙
          (ap (λ (x : View). let y : View = record x { seen = b'.events; stage = idle } in y) drawn
          ∙ (λ i. let y : View = record m0.0 { seen = seen i; stage = sym st i } in y)));
    }

pub length-entries : (h : List BoardEvent) → length (entries_of h) ≡ length h
length-entries h = length-map h entry_of

first_board : Content → List (ℕ × Content) → Content
first_board d [] = d
first_board d (x ∷ xs) = x.1

-- what is lent is the board that was taken
same_hand : (l more : List (ℕ × Content)) (b b' : Content) → l ≡ (0, b) ∷ [] → l ≡ (0, b') ∷ more → b' ≡ b
unfolding first_board
same_hand l more b b' p q = ap (first_board b) (sym q ∙ p)

-- the same of what the board's own call told of the board that was lent
pub call_tells : (tells : Content → Type 0) (after : Content → Content) (m0 m1 m2 m3 : Mine) (more : List (ℕ × Content))
    (t : ℕ) (b lent b' : Content) → m0.0.stage ≡ idle → m1.0 ≡ at_stage m0.0 (waits t) → HasTaken m1 m2 b →
    m2.1 ≡ (0, lent) ∷ more → tells lent → b' ≡ after lent
    → m3 ≡ (record m2.0 { seen = b'.events; stage = idle }, []) → Called tells after m0.0 m3.0
call_tells tells after m0 m1 m2 m3 more t b lent b' st drawn taken is told went given =
    let same : lent ≡ b = same_hand m2.1 more b lent taken.3 is in
    calls tells after m0 m1 m2 m3 t b b' st drawn taken (subst tells same told) (went ∙ ap after same) given

-- and is for what the seat names
pub lent_setup : (m0 m1 m2 : Mine) (more : List (ℕ × Content)) (t : ℕ) (b lent : Content) →
    m1.0 ≡ at_stage m0.0 (waits t) → HasTaken m1 m2 b → m2.1 ≡ (0, lent) ∷ more → lent.setup ≡ m0.0.setup
lent_setup m0 m1 m2 more t b lent drawn taken is =
    ap (λ (x : Content). x.setup) (same_hand m2.1 more b lent taken.3 is) ∙ (taken.1 ∙ ap (λ (x : View). x.setup) drawn)

-- the hand has the board that was taken, and nothing else
pub in_hand : (m1 m2 : Mine) (b : Content) → HasTaken m1 m2 b → (x : Content) × (m2.1 ≡ (0, x) ∷ rest m2.1)
in_hand m1 m2 b taken = (b, taken.3 ∙ ap (λ (l : List (ℕ × Content)). (0, b) ∷ l) (sym (ap rest taken.3)))

-- before the board's own call the seat has seen all of its entries es
pub seen_before : (m1 m2 : Mine) (more : List (ℕ × Content)) (b lent : Content) (es : List Entry) → HasTaken m1 m2 b →
    m2.1 ≡ (0, lent) ∷ more → es ≡ entries_of lent.events → length es ≡ length m2.0.seen
seen_before m1 m2 more b lent es taken is listed =
    let seen : m2.0.seen ≡ lent.events = ap (λ (x : View). x.seen) taken.2.1 ∙
    sym (ap (λ (x : Content). x.events) (same_hand m2.1 more b lent taken.3 is)) in
    ap (λ (l : List Entry). length l) listed ∙
    (length-entries lent.events ∙ ap (λ (l : List BoardEvent). length l) (sym seen))

-- what it has seen after the call is legal
pub legal_after : (m0 m1 m2 m3 : Mine) (more : List (ℕ × Content)) (t : ℕ) (b lent b' : Content) →
    m1.0 ≡ at_stage m0.0 (waits t) → HasTaken m1 m2 b → m2.1 ≡ (0, lent) ∷ more → b'.setup ≡ lent.setup
    → m3 ≡ (record m2.0 { seen = b'.events; stage = idle }, []) → IsLegalHistory b'.setup b'.events →
    IsLegalHistory m3.0.setup m3.0.seen
legal_after m0 m1 m2 m3 more t b lent b' drawn taken is same given legal =
    let named : m3.0.setup ≡ m0.0.setup = ap (λ (x : Mine). x.0.setup) given ∙
    (ap (λ (x : View). x.setup) taken.2.1 ∙ ap (λ (x : View). x.setup) drawn) in
    let setup : b'.setup ≡ m3.0.setup =
    same ∙ (lent_setup m0 m1 m2 more t b lent drawn taken is ∙ sym named) in
    let seen : b'.events ≡ m3.0.seen = sym (ap (λ (x : Mine). x.0.seen) given) in
    subst (λ (x : Content). IsLegalHistory x.setup x.events) (λ i. content (setup i) (seen i)) legal

-- ---- a call makes no event, or one of its caller

claim_follows : (h : List BoardEvent) (c : ℕ) (r : ClaimReply) → Follows c h (with_claim h c r)
claim_follows h c Finished = inl refl
claim_follows h c Halted = inl refl
claim_follows h c (GivenTask n u) = inr (Given c n u, refl, refl)
claim_follows h c NotYet = inl refl

pub claim_goes_on : (b : Content) (c : ℕ) → Follows c b.events (after_claim b c).events
claim_goes_on b c = claim_follows b.events c (claim_reply (rules_of b.setup) b.events)

answer_follows : {D : Type 0} (h : List BoardEvent) (c : ℕ) (e : BoardEvent) (r : PostReply D) → caller_of e ≡ c →
    Follows c h (with_answer h e r)
answer_follows h c e (OtherProposal n o) by = inl refl
answer_follows h c e (OtherUnit u m) by = inl refl
answer_follows h c e (OtherContent d) by = inl refl
answer_follows h c e (Doubled d) by = inl refl
answer_follows h c e (OtherHolder k d) by = inl refl
answer_follows h c e (TakenPost closed) by = inr (e, by, refl)

either_by : (t : Bool) (c n u : ℕ) (a : Answer) → caller_of (cond t (Closing c n u a) (Taken c n u a)) ≡ c
either_by true c n u a = refl
either_by false c n u a = refl

pub post_goes_on : (b : Content) (c n u : ℕ) (ρ : PriceLists) (x : AnyUnit) (a : Answer) →
    Follows c b.events (after_post b c n u ρ x a).events
post_goes_on b c n u ρ x a = answer_follows b.events c (post_event (rules_of b.setup) (posts b.events) c n u a)
    (post_reply (rules_of b.setup) b.events (differs_from b.setup u ρ x) c n u a)
    (either_by (is_closed (rules_of b.setup) (with_post (posts b.events) c n u a) n) c n u a)

halt_follows : (h : List BoardEvent) (c : ℕ) (t : Bool) → Follows c h (cond t h (h ++ Stopped c ∷ []))
halt_follows h c true = inl refl
halt_follows h c false = inr (Stopped c, refl, refl)

pub halt_goes_on : (b : Content) (c : ℕ) → Follows c b.events (after_halt b c).events
halt_goes_on b c = halt_follows b.events c (list_any (is_halt_of c) b.events)

-- what is in the seat's hand after the board's own call, whose entries are es
pub handed : (m0 m1 m2 : Mine) (more : List (ℕ × Content)) (t c : ℕ) (b lent b' : Content) (after : Content → Content)
    (es : List Entry)
    → m0.0.caller ≡ c → m1.0 ≡ at_stage m0.0 (waits t) → HasTaken m1 m2 b → m2.1 ≡ (0, lent) ∷ more → b' ≡ after lent →
    Follows c lent.events (after lent).events → (after lent).setup ≡ lent.setup → es ≡ entries_of b'.events
    → (x : Content) × ((0, b') ∷ rest m2.1 ≡ (0, x) ∷ []) × Follows m2.0.caller m2.0.seen x.events ×
    (length es ≡ length x.events) × (x.setup ≡ m2.0.setup)
handed m0 m1 m2 more t c b lent b' after es who drawn taken is went next same listed =
    let one : lent ≡ b = same_hand m2.1 more b lent taken.3 is in
    let caller : m2.0.caller ≡ c = ap (λ (x : View). x.caller) taken.2.1 ∙ (ap (λ (x : View). x.caller) drawn ∙ who) in
    let seen : m2.0.seen ≡ lent.events = ap (λ (x : View). x.seen) taken.2.1 ∙
    sym (ap (λ (x : Content). x.events) one) in
    let named : m2.0.setup ≡ b.setup = ap (λ (x : View). x.setup) taken.2.1 ∙ sym taken.1 in
    let goes : Follows m2.0.caller m2.0.seen (after lent).events =
    subst (λ (z : ℕ × List BoardEvent). Follows z.0 z.1 (after lent).events) (λ i. (sym caller i, sym seen i))
    next in (
      b',
      ap (λ (l : List (ℕ × Content)). (0, b') ∷ l) (ap rest taken.3),
      subst (λ (x : Content). Follows m2.0.caller m2.0.seen x.events) (sym went) goes,
      ap (λ (l : List Entry). length l) listed ∙ length-entries b'.events,
      ap (λ (x : Content). x.setup) went ∙ (same ∙ (ap (λ (x : Content). x.setup) one ∙ sym named)),
    )
