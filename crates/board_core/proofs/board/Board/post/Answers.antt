use Rattle.board_core.proofs.Common.{◌≡◌, ℕ, suc, ◌+◌, ◌-◌, ◌<◌, ◌==◌, ℤ, Bool, true, false, Option, List, [], ◌∷◌}
use Rattle.board_core.proofs.Common.{◌++◌, length, get_or, slice_index_or, refl, subst, sym, ap, ◌∙◌, arith}
use Rattle.board_core.proofs.Common.{length-append, set, All, Answer, Content, rules_of, IsTotal, IsSum}
use Rattle.board_core.proofs.Common.{post_answer, after_post, entry_of, Event, posts, with_post, is_closed, post_event}
use Rattle.board_core.proofs.Common.{with_answer, Entry, unit_count, task_unit, prices_of, task_number, events_of}
use Rattle.board_core.proofs.Common.{blank, Lists, unset, sums_of, fronts_of, AreTallies, IsBoard, refusal_of, reply_of}
use Rattle.board_core.proofs.Common.{posted_of, closed_if, Sums, Fronts, is_full, IsRound, answer_of}
use Rattle.board_core.proofs.Common.{Posts, PostReply, Setup, IsLegalHistory, Difference, AnyUnit, PriceLists, Proposal}
use Rattle.board_core.proofs.Common.{int_at, LedgerValue, IsLedger, ◌≤◌, le_trans, MOST_UNITS}
use Rattle.board_store.specs.declared.entries.Call.TheVariants as calls
use Rattle.board_core.specs.declared.replies.Posted.TheVariants as replies_of
use Rattle.board_core.proofs.Lemmas.{content, entries_more, is_task, one_less, place_before}
use Rattle.board_core.proofs.Lemmas.{refusal_is, refused_says, taken_here, supply_small, reserve_small, units_few}
use Rattle.plain_lists.specs.declared.limits.TheConstants.{MOST_CALLERS}
use Rattle.board_core.proofs.Lemmas.{caller_few, entry_is, setup_in, events_in, lists_in, IsTakenHere}
use Rattle.board_core.proofs.PostEvents.{events_posted}
use Rattle.board_core.proofs.PostLists.{k_inside, mark_inside, kept_inside, free, count_few, closes_is}
use Rattle.board_core.proofs.PostRounds.{rounds_in, sums_small, rows_below, legal_post, posts_are, extends}
use Rattle.board_core.proofs.PostRounds.{full_was_open, posted}
use Rattle.board_core.proofs.PostSums.{IsCounted, place_, supply_was, reserve_was, earned_was, tallies_more}
use Rattle.board_core.proofs.PostSums.{fronts_same, counted_ledger}
use Rattle.board_core.proofs.board.Board.post.Goals as goal
use Rattle.board_core.proofs.board.Board.post.Goals.{In-Some, In_default, After-task_number-at, After-put, After-add}
use Rattle.board_core.proofs.board.Board.post.Goals.{After-deref-3}

number_is : (c : After-task_number-at) → c.task_number-at.result ≡ task_number
    (unit_count (setup_in c.self.inside).market) c.args.task.now.proposal c.args.task.now.unit
number_is c = c.task_number-at.ensures ∙
    ap (λ (m : ℕ). task_number m c.args.task.now.proposal c.args.task.now.unit) c.unit_count-units.ensures.value

kept_is : (c : After-put) (i : ℕ) → c.task_number-at.result ≡ i →
    c.put.new.self.answers ≡ set c.self.inside.store.answers i (answer_of c.args.answer.now)
kept_is c i at_ = c.put.ensures.answers ∙
    ap (λ (j : ℕ). set c.self.inside.store.answers j (answer_of c.args.answer.now)) at_

counted : (c : After-add) → IsCounted c.self.inside.ledger c.add.new.self (c.args.task.now.proposal - 1)
    (task_unit c.args.task.now) (answer_of c.args.answer.now) (blank 0)
counted c = record {
  proposals = c.add.ensures.proposals (blank 0);
  earned = c.add.ensures.earned;
  closed =
      c.add.ensures.closed;
  opened = c.add.ensures.opened;
}

counts_are : (c : After-deref-3) → c.deref-3.result.now ≡ set c.self.inside.lists.counts.items
    (c.args.task.now.proposal - 1) (get_or c.self.inside.lists.counts.items (c.args.task.now.proposal - 1) 0 + 1)
counts_are c = c.deref-3.ensures.value ∙ c.count_answer.ensures.counts

-- a post that is refused
module _ (c : In-Some) where
  abbrev refused : PostReply Difference
  refused = post_answer (content (setup_in c.self.inside) (events_in c.self.inside)) c.args.caller
      c.args.task.now.proposal c.args.task.now.unit (prices_of c.args.task.now.prices) (task_unit c.args.task.now)
      (answer_of c.args.answer.now)

  says : (posted_of refused ≡ c.in-Some.refused) ×
      ((h : List (Event Answer)) (e : Event Answer) → with_answer h e refused ≡ h)
  says =
      let s = c.self.inside in
      let asked = rw (c.deref.ensures.value, c.deref-2.ensures.value) at c.refusal_of_post-refused.ensures.refused in
      refused_says refused c.in-Some.refused
      (refusal_is (setup_in s) (events_in s) (lists_in s) s.ledger c.self.invariant.0 c.args.caller
      c.args.task.now.proposal c.args.task.now.unit (prices_of c.args.task.now.prices) (task_unit c.args.task.now)
      (answer_of c.args.answer.now)
      ∙ sym asked ∙ c.in-Some.is)

-- a post that is taken
module _ (c : In_default) where
  abbrev b : Setup
  b = setup_in c.self.inside

  abbrev units : ℕ
  units = unit_count b.market

  abbrev h : List (Event Answer)
  h = events_in c.self.inside

  abbrev x : Lists
  x = lists_in c.self.inside

  abbrev l : LedgerValue
  l = c.self.inside.ledger

  I : IsBoard b h x l
  I = c.self.invariant.0

  abbrev k : ℕ
  k = c.args.caller

  abbrev n : ℕ
  n = c.args.task.now.proposal

  abbrev u : ℕ
  u = c.args.task.now.unit

  abbrev ρ : PriceLists
  ρ = prices_of c.args.task.now.prices

  abbrev v : AnyUnit
  v = task_unit c.args.task.now

  abbrev a : Answer
  a = answer_of c.args.answer.now

  ok : IsTakenHere b h l k n u ρ v a
  ok =
      let asked : c.refusal_of_post-refused.result ≡ refusal_of b l x.marks x.takers k n u ρ v =
      rw (c.deref.ensures.value, c.deref-2.ensures.value) at c.refusal_of_post-refused.ensures.refused in
      taken_here c.board_laws.ensures.taken_tells b h x l I k n u ρ v a (is_task c.args.task.now) c.requires.fit
      c.requires.earned (sym asked ∙ c.in_default.is)

  abbrev i : ℕ
  i = task_number units n u

  mark_in : i < length x.marks
  mark_in = mark_inside b h x l I k n u a ok.held

  kept_in : i < length x.kept
  kept_in = kept_inside b h x l I k n u a ok.held

  place_inside : n - 1 < length l.proposals
  place_inside = place_ b (c.board_laws.ensures.of b) h x l I k n u a ok.held v ok.is

  supply : (d : Proposal) → All IsTotal (get_or l.proposals (n - 1) d).supply
  supply d = subst (λ (xs : List ℤ). All IsTotal xs)
      (sym (supply_was b (c.board_laws.ensures.of b) h x l I k n u a ok.held v ok.is d))
      (supply_small c.board_laws.ensures.totals_are_within b h I.setup I.legal n)

  reserve : (d : Proposal) → All IsTotal (get_or l.proposals (n - 1) d).reserve
  reserve d = subst (λ (xs : List ℤ). All IsTotal xs)
      (sym (reserve_was b (c.board_laws.ensures.of b) h x l I k n u a ok.held v ok.is d))
      (reserve_small c.board_laws.ensures.totals_are_within b h I.setup I.legal n)

  earned : IsSum (int_at l.earned (n - 1))
  earned = subst IsSum (sym (earned_was b (c.board_laws.ensures.of b) h x l I k n u a ok.held v ok.is))
      (c.board_laws.ensures.totals_are_within b h I.setup.market I.legal n).earned

  caller : k < b.callers
  caller = subst (λ (z : Content). k < z.setup.callers) (sym c.self.view_is) c.requires.caller

  abbrev event : Event Answer
  event = post_event (rules_of b) (posts h) k n u a

  abbrev h2 : List (Event Answer)
  h2 = h ++ event ∷ []

  abbrev q : Posts Answer
  q = with_post (posts h) k n u a

  abbrev counts2 : List ℕ
  counts2 = set x.counts (n - 1) (get_or x.counts (n - 1) 0 + 1)

  legal2 : IsLegalHistory b h2
  legal2 = legal_post c.board_laws.ensures b h x l I k n u a ok.held caller ok.right

  few : get_or x.counts (n - 1) 0 ≤ units
  few = count_few b h x l I k n u a ok.held

  less : unset (set x.marks i true) + 1 ≡ unset x.marks
  less = one_less x.marks i mark_in (free b h x l I k n u a ok.held)

  -- the ledger with the answer
  module _ (l2 : LedgerValue) (W : IsCounted l l2 (n - 1) v a (blank 0)) where
    tallies : AreTallies b counts2 (sums_of l2) q
    tallies = tallies_more b (c.board_laws.ensures.of b) h x l I k n u a ok.held v ok.is l2 (blank 0) W

    tallies2 : AreTallies b counts2 (sums_of l2) (posts h2)
    tallies2 = subst (AreTallies b counts2 (sums_of l2))
        (sym (posts_are c.board_laws.ensures b h x l I k n u a ok.held caller ok.right)) tallies

    ledger : IsLedger b l2
    ledger = counted_ledger b (c.board_laws.ensures.of b) h x l I k n u a ok.held v ok.is l2 (blank 0) W

    round : IsRound b units counts2 (sums_of l2) (fronts_of l2)
    round = subst (λ (z : Fronts). IsRound b units counts2 (sums_of l2) z)
        (sym (fronts_same b (c.board_laws.ensures.of b) h x l I k n u a ok.held v ok.is l2 (blank 0) W))
        (rounds_in b (c.board_laws.ensures.of b) counts2 (sums_of l2) q tallies (posts h) (fronts_of l)
        (extends c.board_laws.ensures b h x l I k n u a ok.held caller ok.right) I.rounds)

    was_open : (j : ℕ) → j < b.budget → is_full units counts2 (suc j) ≡ true → j < l.opened
    was_open = full_was_open c.board_laws.ensures b h x l I k n u a ok.held caller ok.right counts2 (sums_of l2) tallies

  -- whether it closes its proposal, by the code's test
  module _ (count m : ℕ) (one_more : count ≡ get_or x.counts (n - 1) 0 + 1) (all : m ≡ units) where
    tested : (count == m) ≡ (get_or x.counts (n - 1) 0 + 1 == units)
    tested = ap (λ (y : ℕ). y == m) one_more ∙ ap (λ (y : ℕ). get_or x.counts (n - 1) 0 + 1 == y) all

    closes_so : (count == m) ≡ is_closed (rules_of b) q n
    closes_so = tested ∙ sym (closes_is b h x l I k n u a ok.held)

    events_so : (entry : Entry) (entries : List Entry) (kept : List Answer) →
        entry ≡ record { caller = k; call = calls.Post; proposal = n; unit = u; reply = reply_of (count == m) } →
        entries ≡ c.self.inside.lists.history.items ++ entry ∷ [] → kept ≡ set x.kept i a →
        events_of units kept entries ≡ h2
    events_so entry entries kept entry_as longer more =
        ap (λ (xs : List Answer). events_of units xs entries) more ∙ ap (events_of units (set x.kept i a)) longer
        ∙ events_posted c.board_laws.ensures.answers_fit b h x l I k n u a ok.held c.self.inside.lists.history.items
        refl (count == m) tested entry entry_as

pub refusal_of_post-refused-requires-clause-setup : goal.refusal_of_post-refused-requires-clause-setup
refusal_of_post-refused-requires-clause-setup c = c.self.invariant.0.setup

pub refusal_of_post-refused-requires-clause-opened : goal.refusal_of_post-refused-requires-clause-opened
refusal_of_post-refused-requires-clause-opened c = let L = c.self.invariant.0.ledger in
    subst (λ (m : ℕ). c.self.inside.ledger.opened ≤ m) (sym L.count) L.opened

pub refusal_of_post-refused-requires-clause-few : goal.refusal_of_post-refused-requires-clause-few
refusal_of_post-refused-requires-clause-few c = le_trans c.self.invariant.0.ledger.opened
    c.self.invariant.0.setup.budget

pub refusal_of_post-refused-requires-clause-horizon : goal.refusal_of_post-refused-requires-clause-horizon
refusal_of_post-refused-requires-clause-horizon c = λ k d lt. let L = c.self.invariant.0.ledger in
    L.horizon k d (le_trans lt (subst (λ (m : ℕ). c.self.inside.ledger.opened ≤ m) (sym L.count) L.opened))

pub refusal_of_post-refused-requires-clause-room : goal.refusal_of_post-refused-requires-clause-room
refusal_of_post-refused-requires-clause-room c = c.self.invariant.2

pub refusal_of_post-refused-requires-clause-marks : goal.refusal_of_post-refused-requires-clause-marks
refusal_of_post-refused-requires-clause-marks c =
    let b = setup_in c.self.inside in
    let I = c.self.invariant.0 in
    λ m w one within inside.
    let o = I.ledger.opened in
    let e = place_before (unit_count b.market) b.budget m w one (omega (arith, within, o)) inside in
    let f = ap (λ (xs : List Bool). length xs) c.deref.ensures.value in
    let size = I.marks_are.marks_count in
    omega (arith, e, f, size)

pub refusal_of_post-refused-requires-clause-takers : goal.refusal_of_post-refused-requires-clause-takers
refusal_of_post-refused-requires-clause-takers c = λ i marked.
    subst (λ (xs : List ℕ). i < length xs) (sym c.deref-2.ensures.value)
    (c.self.invariant.0.marks_are.claimed i
    (subst (λ (xs : List Bool). slice_index_or xs i false ≡ true) c.deref.ensures.value marked))

pub returns-in-Some-clause-answer : goal.returns-in-Some-clause-answer
returns-in-Some-clause-answer c =
    sym (says (goal.at.returns-in-Some-clause-answer c).In-Some).0 ∙
    ap (λ (z : Content). posted_of (post_answer z c.args.caller c.args.task.now.proposal c.args.task.now.unit
    (prices_of c.args.task.now.prices) (task_unit c.args.task.now) (answer_of c.args.answer.now))) c.self.view_is

pub returns-in-Some-clause-after : goal.returns-in-Some-clause-after
returns-in-Some-clause-after c =
    let b = setup_in c.self.inside in
    let h = events_in c.self.inside in
    sym (ap (content b) ((says (goal.at.returns-in-Some-clause-after c).In-Some).1 h
    (post_event (rules_of b) (posts h) c.args.caller c.args.task.now.proposal c.args.task.now.unit
    (answer_of c.args.answer.now))))
    ∙ ap (λ (z : Content). after_post z c.args.caller c.args.task.now.proposal c.args.task.now.unit
    (prices_of c.args.task.now.prices) (task_unit c.args.task.now) (answer_of c.args.answer.now)) c.self.view_is

pub task_number-at-requires-clause-first : goal.task_number-at-requires-clause-first
task_number-at-requires-clause-first c =
    let d = (goal.at.task_number-at-requires-clause-first c).In_default in
    (ok d).held.one

pub task_number-at-requires-clause-proposals : goal.task_number-at-requires-clause-proposals
task_number-at-requires-clause-proposals c =
    let d = (goal.at.task_number-at-requires-clause-proposals c).In_default in
    le_trans (ok d).held.within (le_trans (I d).ledger.opened (I d).setup.budget)

pub task_number-at-requires-clause-units : goal.task_number-at-requires-clause-units
task_number-at-requires-clause-units c =
    let d = (goal.at.task_number-at-requires-clause-units c).In_default in
    subst (λ (m : ℕ). m ≤ MOST_UNITS) (sym c.unit_count-units.ensures.value) (units_few (b d) (I d).setup)

pub task_number-at-requires-clause-inside : goal.task_number-at-requires-clause-inside
task_number-at-requires-clause-inside c =
    let d = (goal.at.task_number-at-requires-clause-inside c).In_default in
    subst (λ (m : ℕ). u d < m) (sym c.unit_count-units.ensures.value) (ok d).held.inside

pub index_mut-requires : goal.index_mut-requires
index_mut-requires c =
    let e = mark_in (goal.at.index_mut-requires c).In_default in
    let at_ = number_is (goal.at.index_mut-requires c).After-task_number-at in
    omega (arith, e, at_)

pub put-requires-clause-index : goal.put-requires-clause-index
put-requires-clause-index c =
    let e = kept_in (goal.at.put-requires-clause-index c).In_default in
    let at_ = number_is (goal.at.put-requires-clause-index c).After-task_number-at in
    omega (arith, e, at_)

pub put-requires-clause-horizon : goal.put-requires-clause-horizon
put-requires-clause-horizon c = (ok (goal.at.put-requires-clause-horizon c).In_default).long ∙
    sym c.self.invariant.1.store

pub put-requires-clause-like : goal.put-requires-clause-like
put-requires-clause-like c =
    let e = kept_in (goal.at.put-requires-clause-like c).In_default in
    let at_ = number_is (goal.at.put-requires-clause-like c).After-task_number-at in
    omega (arith, e, at_, c.task_number_one_proposal_before.ensures)

pub put-requires-clause-left : goal.put-requires-clause-left
put-requires-clause-left c =
    let e = less (goal.at.put-requires-clause-left c).In_default in
    let l = c.self.invariant.1.left in
    omega (arith, e, l)

pub add-requires-clause-place : goal.add-requires-clause-place
add-requires-clause-place c =
    let d = (goal.at.add-requires-clause-place c).In_default in
    place_inside d

pub add-requires-clause-earned_place : goal.add-requires-clause-earned_place
add-requires-clause-earned_place c =
    let d = (goal.at.add-requires-clause-earned_place c).In_default in
    subst (λ (m : ℕ). n d - 1 < m) (sym (I d).tallies.earned_count)
    (k_inside (b d) (h d) (x d) (l d) (I d) (k d) (n d) (u d) (a d) (ok d).held)

pub add-requires-clause-feasible : goal.add-requires-clause-feasible
add-requires-clause-feasible c =
    let d = (goal.at.add-requires-clause-feasible c).In_default in
    (ok d).feasible

pub add-requires-clause-horizon : goal.add-requires-clause-horizon
add-requires-clause-horizon c =
    let d = (goal.at.add-requires-clause-horizon c).In_default in
    λ r. (ok d).long ∙ sym ((I d).ledger.horizon (n d - 1) r (place_inside d))

pub add-requires-clause-supply : goal.add-requires-clause-supply
add-requires-clause-supply c = supply (goal.at.add-requires-clause-supply c).In_default

pub add-requires-clause-reserve : goal.add-requires-clause-reserve
add-requires-clause-reserve c = reserve (goal.at.add-requires-clause-reserve c).In_default

pub add-requires-clause-earned : goal.add-requires-clause-earned
add-requires-clause-earned c = earned (goal.at.add-requires-clause-earned c).In_default

pub count_answer-requires-clause-place : goal.count_answer-requires-clause-place
count_answer-requires-clause-place c =
    let d = (goal.at.count_answer-requires-clause-place c).In_default in
    subst (λ (m : ℕ). n d - 1 < m) (sym (I d).tallies.counts_count)
    (k_inside (b d) (h d) (x d) (l d) (I d) (k d) (n d) (u d) (a d) (ok d).held)

pub count_answer-requires-clause-count : goal.count_answer-requires-clause-count
count_answer-requires-clause-count c =
    let d = (goal.at.count_answer-requires-clause-count c).In_default in
    let e = few d in
    omega (arith, e, units_few (b d) (I d).setup)

pub push_reserved-requires : goal.push_reserved-requires
push_reserved-requires c =
    let e = less (goal.at.push_reserved-requires c).In_default in
    let room = c.self.invariant.1.room in
    omega (arith, e, room)

pub advance_proposals-requires-clause-setup : goal.advance_proposals-requires-clause-setup
advance_proposals-requires-clause-setup c = c.self.invariant.0.setup

pub advance_proposals-requires-clause-counts : goal.advance_proposals-requires-clause-counts
advance_proposals-requires-clause-counts c =
    let d = (goal.at.advance_proposals-requires-clause-counts c).In_default in
    ap (λ (xs : List ℕ). length xs) (counts_are (goal.at.advance_proposals-requires-clause-counts c).After-deref-3) ∙
    (tallies d c.add.new.self (counted (goal.at.advance_proposals-requires-clause-counts c).After-add)).counts_count

pub advance_proposals-requires-clause-earned_count : goal.advance_proposals-requires-clause-earned_count
advance_proposals-requires-clause-earned_count c =
    let d = (goal.at.advance_proposals-requires-clause-earned_count c).In_default in
    (tallies d c.add.new.self (counted (goal.at.advance_proposals-requires-clause-earned_count
    c).After-add)).earned_count

pub advance_proposals-requires-clause-horizon : goal.advance_proposals-requires-clause-horizon
advance_proposals-requires-clause-horizon c = c.self.invariant.1.next

pub advance_proposals-requires-clause-ledger : goal.advance_proposals-requires-clause-ledger
advance_proposals-requires-clause-ledger c = ledger (goal.at.advance_proposals-requires-clause-ledger c).In_default
    c.add.new.self
    (counted (goal.at.advance_proposals-requires-clause-ledger c).After-add)

pub advance_proposals-requires-clause-round : goal.advance_proposals-requires-clause-round
advance_proposals-requires-clause-round c =
    let d = (goal.at.advance_proposals-requires-clause-round c).In_default in
    subst (λ (xs : List ℕ). IsRound (b d) (units d) xs (sums_of c.add.new.self) (fronts_of c.add.new.self))
    (sym (counts_are (goal.at.advance_proposals-requires-clause-round c).After-deref-3))
    (round d c.add.new.self (counted (goal.at.advance_proposals-requires-clause-round c).After-add))

pub advance_proposals-requires-clause-opened : goal.advance_proposals-requires-clause-opened
advance_proposals-requires-clause-opened c =
    let d = (goal.at.advance_proposals-requires-clause-opened c).In_default in
    let cs = counts_are (goal.at.advance_proposals-requires-clause-opened c).After-deref-3 in
    λ j lt full.
    let e = was_open d c.add.new.self (counted (goal.at.advance_proposals-requires-clause-opened c).After-add) j lt
    (subst (λ (xs : List ℕ). is_full (units d) xs (suc j) ≡ true) cs full) in
    let o = c.add.ensures.opened in
    omega (arith, e, o)

pub advance_proposals-requires-clause-earned : goal.advance_proposals-requires-clause-earned
advance_proposals-requires-clause-earned c =
    let d = (goal.at.advance_proposals-requires-clause-earned c).In_default in
    sums_small c.board_laws.ensures (b d) (h2 d) (I d).setup (legal2 d) (counts2 d) (sums_of c.add.new.self)
    (tallies2 d c.add.new.self (counted (goal.at.advance_proposals-requires-clause-earned c).After-add))

pub advance_proposals-requires-clause-rows : goal.advance_proposals-requires-clause-rows
advance_proposals-requires-clause-rows c =
    let d = (goal.at.advance_proposals-requires-clause-rows c).In_default in
    let cs = counts_are (goal.at.advance_proposals-requires-clause-rows c).After-deref-3 in
    λ m le full.
    rows_below c.board_laws.ensures (b d) (h2 d) (I d).setup (legal2 d) (counts2 d) (sums_of c.add.new.self)
    (tallies2 d c.add.new.self (counted (goal.at.advance_proposals-requires-clause-rows c).After-add)) m le
    (λ j lt. subst (λ (xs : List ℕ). is_full (units d) xs (suc j) ≡ true) cs (full j lt))

pub invariant_of-self-2 : goal.invariant_of-self-2
invariant_of-self-2 c =
    let d = (goal.at.invariant_of-self-2 c).In_default in
    let s = c.self.inside in
    let K = c.self.invariant.1 in
    let x = lists_in s in
    let at_ = number_is (goal.at.invariant_of-self-2 c).After-task_number-at in
    let cs = counts_are (goal.at.invariant_of-self-2 c).After-deref-3 in
    let T = tallies d c.add.new.self (counted (goal.at.invariant_of-self-2 c).After-add) in
    let l3 = c.advance_proposals.new.ledger in
    let kept : c.put.new.self.answers ≡ set s.store.answers (i d) (a d) =
    kept_is (goal.at.invariant_of-self-2 c).After-put (i d) at_ in
    let marks_is : set s.lists.marks.items c.task_number-at.result true ≡ set s.lists.marks.items (i d) true =
    ap (λ (j : ℕ). set s.lists.marks.items j true) at_ in
    let events = events_so d c.count_answer.result c.unit_count-units.result c.count_answer.ensures.count
    c.unit_count-units.ensures.value c.history_entry_of_taken_post.result c.push_reserved.new.self.items
    c.put.new.self.answers c.history_entry_of_taken_post.ensures c.push_reserved.ensures.items kept in
    let T3 = subst (λ (z : Sums). AreTallies (b d) (counts2 d) z (q d)) (sym c.advance_proposals.ensures.sums) T in
    let R3 = subst (λ (xs : List ℕ). IsRound (b d) (units d) xs (sums_of l3) (fronts_of l3)) cs
    c.advance_proposals.ensures.round in
    let done : l3.closed < (b d).budget → is_full (units d) (counts2 d) (suc l3.closed) ≡ false =
    λ lt. subst (λ (xs : List ℕ). is_full (units d) xs (suc l3.closed) ≡ false) cs
    (c.advance_proposals.ensures.done lt) in
    let new = posted c.board_laws.ensures (b d) (h d) x (l d) (I d) (k d) (n d) (u d) (a d) (ok d).held (caller d)
    (ok d).right l3 c.advance_proposals.ensures.ledger T3 R3 done in
    let lists : (marks : List Bool) (kept : List Answer) (counts : List ℕ) → Lists =
    λ marks kept counts. record x { marks = marks; kept = kept; counts = counts } in
    let n1 = subst (λ (xs : List ℕ). IsBoard (b d) (h2 d)
    (lists (set s.lists.marks.items (i d) true) (set s.store.answers (i d) (a d)) xs) l3)
    (sym c.count_answer.ensures.counts) new in
    let n2 = subst (λ (xs : List Answer). IsBoard (b d) (h2 d)
    (lists (set s.lists.marks.items (i d) true) xs c.count_answer.new.counts.items) l3) (sym kept) n1 in
    let n3 = subst (λ (xs : List Bool). IsBoard (b d) (h2 d)
    (lists xs c.put.new.self.answers c.count_answer.new.counts.items) l3) (sym marks_is) n2 in
    let n4 = subst (λ (z : List (Event Answer)). IsBoard (b d) z
    (lists (set s.lists.marks.items c.task_number-at.result true) c.put.new.self.answers
    c.count_answer.new.counts.items) l3) (sym events) n3 in
    let fewer = less d in
    let unset_at = ap unset marks_is in
    let room = K.room in
    let longer = ap (λ (xs : List Entry). length xs) c.push_reserved.ensures.items in
    let entry_same : c.history_entry_of_taken_post.result ≡ entry_of (event d) =
    c.history_entry_of_taken_post.ensures ∙
    ap (λ (y : Bool). record { caller = k d; call = calls.Post; proposal = n d; unit = u d; reply = reply_of y })
    (closes_so d c.count_answer.result c.unit_count-units.result c.count_answer.ensures.count
    c.unit_count-units.ensures.value) ∙
    sym (entry_is (is_closed (rules_of (b d)) (q d) (n d)) (k d) (n d) (u d) (a d)) in (
      n4,
      record {
        room = omega (
          arith,
          room,
          fewer,
          longer,
          unset_at,
          length-append s.lists.history.items (c.history_entry_of_taken_post.result ∷ []),
          c.push_reserved.ensures.capacity,
        );
        takers_room = K.takers_room;
        entries_are =
            entries_more (h d) (events_of (units d) c.put.new.self.answers c.push_reserved.new.self.items)
            (event d) s.lists.history.items c.push_reserved.new.self.items events
            (c.push_reserved.ensures.items ∙ ap (λ (y : Entry). s.lists.history.items ++ y ∷ []) entry_same)
            K.entries_are;
        store = c.put.ensures.periods ∙ K.store;
        left = let l = K.left in omega (arith, l, fewer, unset_at, c.put.ensures.left);
        next = c.advance_proposals.ensures.horizon;
      },
      c.refusal_of_post-refused.ensures.room,
    )

pub returns-clause-answer : goal.returns-clause-answer
returns-clause-answer c =
    let d = (goal.at.returns-clause-answer c).In_default in
    ap (λ (y : Option ℕ). replies_of.Taken y)
    (c.number_of_proposal_if_closed.ensures ∙ ap (λ (y : Bool). closed_if y (n d))
    (closes_so d c.count_answer.result c.unit_count-units.result c.count_answer.ensures.count
    c.unit_count-units.ensures.value))
    ∙ sym (ap posted_of (ok d).reply) ∙
    ap (λ (z : Content). posted_of (post_answer z (k d) (n d) (u d) (ρ d) (v d) (a d))) c.self.view_is

pub returns-clause-after : goal.returns-clause-after
returns-clause-after c =
    let d = (goal.at.returns-clause-after c).In_default in
    let kept = kept_is (goal.at.returns-clause-after c).After-put (i d)
    (number_is (goal.at.returns-clause-after c).After-task_number-at) in
    let events = events_so d c.count_answer.result c.unit_count-units.result c.count_answer.ensures.count
    c.unit_count-units.ensures.value c.history_entry_of_taken_post.result c.push_reserved.new.self.items
    c.put.new.self.answers c.history_entry_of_taken_post.ensures c.push_reserved.ensures.items kept in
    ap (content (b d)) events ∙ sym (ap (λ r. content (b d) (with_answer (h d) (event d) r)) (ok d).reply) ∙
    ap (λ (z : Content). after_post z (k d) (n d) (u d) (ρ d) (v d) (a d)) c.self.view_is

pub overflow_sub-before : goal.overflow_sub-before
overflow_sub-before c = (ok (goal.at.overflow_sub-before c).In_default).held.one

pub history_entry_of_taken_post-requires-clause-caller : goal.history_entry_of_taken_post-requires-clause-caller
history_entry_of_taken_post-requires-clause-caller c =
    let d = (goal.at.history_entry_of_taken_post-requires-clause-caller c).In_default in
    caller_few c.args.caller (b d).callers MOST_CALLERS (caller d) (I d).setup.callers

pub history_entry_of_taken_post-requires-clause-proposal : goal.history_entry_of_taken_post-requires-clause-proposal
history_entry_of_taken_post-requires-clause-proposal c =
    let d = (goal.at.history_entry_of_taken_post-requires-clause-proposal c).In_default in
    le_trans (ok d).held.within (le_trans (I d).ledger.opened (I d).setup.budget)

pub history_entry_of_taken_post-requires-clause-unit : goal.history_entry_of_taken_post-requires-clause-unit
history_entry_of_taken_post-requires-clause-unit c =
    let d = (goal.at.history_entry_of_taken_post-requires-clause-unit c).In_default in
    caller_few (u d) (units d) MOST_UNITS (ok d).held.inside (units_few (b d) (I d).setup)
