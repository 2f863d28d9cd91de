use Rattle.board_core.proofs.Common.{◌≡◌, ◌+◌, ◌/◌, ◌%◌, ◌<◌, ◌++◌, ◌∷◌, [], ℕ, List, length, get_or, refl, subst, sym}
use Rattle.board_core.proofs.Common.{ap, ◌∙◌, arith, length-append, slice_get, Answer, Content, claim_answer}
use Rattle.board_core.proofs.Common.{after_claim, entry_of, Event, Given, ClaimReply, with_claim, Entry, PriceLists}
use Rattle.board_core.proofs.Common.{AnyUnit, Schedule, units_of, unit_count, task_unit, IsFeasible, event_of}
use Rattle.board_core.proofs.Common.{events_of, blank, Lists, IsBoard, task_count, claim_of, ◌≤◌, Setup, NotYet, Halted}
use Rattle.board_core.proofs.Common.{Finished, GivenTask, Task, LedgerValue}
use Rattle.board_store.specs.declared.entries.Call.TheVariants as calls
use Rattle.board_store.specs.declared.entries.Reply.TheVariants as replies
use Rattle.board_core.specs.Tasks.{LeavesTask, IsOwnTask}
use Rattle.board_core.proofs.Claims.{claim_finished, claim_halted, claim_not_yet, claim_given, price_is, count_within}
use Rattle.board_core.proofs.Claims.{claimed}
use Rattle.plain_lists.specs.declared.limits.TheConstants.{MOST_CALLERS, MOST_PROPOSALS}
use Rattle.uc_model.specs.TaskRoom.{IsTaskFor}
use Rattle.board_core.proofs.Lemmas.{open_place, open_few, caller_few, content, events_more, entries_more, partner}
use Rattle.board_core.proofs.Lemmas.{setup_in, events_in, lists_in}
use Rattle.board_core.proofs.board.Board.claim.Goals as goal
use Rattle.board_core.proofs.board.Board.claim.Goals.{Then-open-closed, Then-self, After-unit_count-units}

-- what a claim says of the board's content, read off the reply to it
module _ {b : Setup} {h : List (Event Answer)} {w : Content} {z : ClaimReply} (is : content b h ≡ w)
    (reply : claim_answer (content b h) ≡ z) where
  answered : claim_of z ≡ claim_of (claim_answer w)
  answered = ap claim_of (sym reply) ∙ ap (λ (v : Content). claim_of (claim_answer v)) is

  followed : (k : ℕ) → content b (with_claim h k z) ≡ after_claim w k
  followed k = sym (ap (λ (r : ClaimReply). content b (with_claim h k r)) reply) ∙
      ap (λ (v : Content). after_claim v k) is

  left : (before after : Task) → LeavesTask (content b h) z before after → LeavesTask w (claim_answer w) before after
  left before after here = subst (λ (v : Content). LeavesTask v (claim_answer v) before after) is
      (subst (λ (r : ClaimReply). LeavesTask (content b h) r before after) (sym reply) here)

finished : (c : Then-open-closed) → claim_answer (content (setup_in c.self.inside) (events_in c.self.inside)) ≡ Finished
finished c =
    let s = c.self.inside in
    let o = c.opened-open.ensures in
    let f = c.closed.ensures in
    let test = c.if-open-closed.true in
    claim_finished (setup_in s) (events_in s) (lists_in s) s.ledger c.self.invariant.0 c.board_laws.ensures
    (omega (arith, o, f, test))

halted : (c : Then-self) → claim_answer (content (setup_in c.self.inside) (events_in c.self.inside)) ≡ Halted
halted c =
    let s = c.self.inside in
    let o = c.opened-open.ensures in
    let f = c.closed.ensures in
    let test = c.if-open-closed.false in
    claim_halted (setup_in s) (events_in s) (lists_in s) s.ledger c.self.invariant.0 c.board_laws.ensures
    (omega (arith, o, f, test)) c.if-self.true

-- the numbers of a claim that finds neither a halt nor the end
module _ (c : After-unit_count-units) where
  abbrev b : Setup
  b = setup_in c.self.inside

  abbrev h : List (Event Answer)
  h = events_in c.self.inside

  abbrev x : Lists
  x = lists_in c.self.inside

  abbrev l : LedgerValue
  l = c.self.inside.ledger

  abbrev units : ℕ
  units = unit_count b.market

  abbrev before : ℕ
  before = length x.takers / units

  abbrev unit : ℕ
  unit = length x.takers % units

  I : IsBoard b h x l
  I = c.self.invariant.0

  running : l.closed < l.opened
  running = let o = c.opened-open.ensures in let f = c.closed.ensures in let test = c.if-open-closed.false in
      omega (arith, o, f, test)

  before_is : c.len-number.result / c.unit_count-units.result ≡ before
  before_is = let n : c.len-number.result ≡ length x.takers = omega arith in
      ap (λ (i : ℕ). i / c.unit_count-units.result) n ∙
      ap (λ (i : ℕ). length x.takers / i) c.unit_count-units.ensures.value

  unit_is : c.len-number.result % c.unit_count-units.result ≡ unit
  unit_is = let n : c.len-number.result ≡ length x.takers = omega arith in
      ap (λ (i : ℕ). i % c.unit_count-units.result) n ∙
      ap (λ (i : ℕ). length x.takers % i) c.unit_count-units.ensures.value

  not_yet : c.opened-open.result ≤ c.len-number.result / c.unit_count-units.result → claim_answer (content b h) ≡ NotYet
  not_yet late = let d = before_is in let o = c.opened-open.ensures in
      claim_not_yet b h x l I c.board_laws.ensures running c.if-self.false (omega (arith, late, d, o))

  module _ (early : c.len-number.result / c.unit_count-units.result < c.opened-open.result) where
    more : before < l.opened
    more = let d = before_is in let o = c.opened-open.ensures in omega (arith, early, d, o)

    given : claim_answer (content b h) ≡ GivenTask (before + 1) unit
    given = claim_given b h x l I c.board_laws.ensures more running c.if-self.false

    within : length x.takers < task_count b
    within = count_within b h x l I c.board_laws.ensures more

  abbrev entry : Entry
  entry = record {
    caller = c.args.caller;
    call = calls.Claim;
    proposal =
        c.len-number.result / c.unit_count-units.result + 1;
    unit = c.len-number.result % c.unit_count-units.result;
    reply = replies.Given;
  }

  abbrev event : Event Answer
  event = Given c.args.caller (before + 1) unit

  event_is : event_of units x.kept entry ≡ event
  event_is = ap (λ (i : ℕ). Given c.args.caller (i + 1) (c.len-number.result % c.unit_count-units.result)) before_is ∙
      ap (Given c.args.caller (before + 1)) unit_is

  events_are : (entries : List Entry) → entries ≡ c.self.inside.lists.history.items ++ entry ∷ [] →
      events_of units x.kept entries ≡ h ++ event ∷ []
  events_are entries longer = events_more units x.kept c.self.inside.lists.history.items entries entry longer ∙
      ap (λ (e : Event Answer). h ++ e ∷ []) event_is

pub returns-then-open-closed-clause-answer : goal.returns-then-open-closed-clause-answer
returns-then-open-closed-clause-answer c =
    answered c.self.view_is (finished (goal.at.returns-then-open-closed-clause-answer c).Then-open-closed)

pub returns-then-open-closed-clause-after : goal.returns-then-open-closed-clause-after
returns-then-open-closed-clause-after c = sym c.self.view_is ∙
    followed c.self.view_is (finished (goal.at.returns-then-open-closed-clause-after c).Then-open-closed) c.args.caller

pub returns-then-open-closed-clause-task : goal.returns-then-open-closed-clause-task
returns-then-open-closed-clause-task c = left c.self.view_is
    (finished (goal.at.returns-then-open-closed-clause-task c).Then-open-closed) c.args.into.now c.args.into.now refl

pub returns-then-self-clause-answer : goal.returns-then-self-clause-answer
returns-then-self-clause-answer c =
    answered c.self.view_is (halted (goal.at.returns-then-self-clause-answer c).Then-self)

pub returns-then-self-clause-after : goal.returns-then-self-clause-after
returns-then-self-clause-after c = sym c.self.view_is ∙
    followed c.self.view_is (halted (goal.at.returns-then-self-clause-after c).Then-self) c.args.caller

pub returns-then-self-clause-task : goal.returns-then-self-clause-task
returns-then-self-clause-task c = left c.self.view_is (halted (goal.at.returns-then-self-clause-task c).Then-self)
    c.args.into.now c.args.into.now refl

pub returns-then-open-before-clause-answer : goal.returns-then-open-before-clause-answer
returns-then-open-before-clause-answer c = answered c.self.view_is
    (not_yet (goal.at.returns-then-open-before-clause-answer c).After-unit_count-units c.if-open-before.true)

pub returns-then-open-before-clause-after : goal.returns-then-open-before-clause-after
returns-then-open-before-clause-after c = sym c.self.view_is ∙
    followed c.self.view_is (not_yet (goal.at.returns-then-open-before-clause-after c).After-unit_count-units
    c.if-open-before.true) c.args.caller

pub returns-then-open-before-clause-task : goal.returns-then-open-before-clause-task
returns-then-open-before-clause-task c =
    left c.self.view_is (not_yet (goal.at.returns-then-open-before-clause-task c).After-unit_count-units
    c.if-open-before.true) c.args.into.now c.args.into.now refl

pub fill_task-requires-clause-horizon : goal.fill_task-requires-clause-horizon
fill_task-requires-clause-horizon c =
    let ledger = (I (goal.at.fill_task-requires-clause-horizon c).After-unit_count-units).ledger in
    let o = c.opened-open.ensures in
    let early = c.if-open-before.false in
    let count = ledger.count in
    let most = ledger.opened in
    ap (λ (π : PriceLists). length π.energy) (c.prices-prices.ensures (blank 0)) ∙
    ledger.horizon (c.len-number.result / c.unit_count-units.result) (blank 0)
    (omega (arith, early, o, count, most))

pub push_reserved-requires : goal.push_reserved-requires
push_reserved-requires c =
    let w = within (goal.at.push_reserved-requires c).After-unit_count-units c.if-open-before.false in
    let room = c.self.invariant.1.takers_room in
    omega (arith, w, room)

pub push_reserved-requires-2 : goal.push_reserved-requires-2
push_reserved-requires-2 c =
    let w = within (goal.at.push_reserved-requires-2 c).After-unit_count-units c.if-open-before.false in
    let room = c.self.invariant.1.room in
    omega (arith, w, room)

pub invariant_of-self : goal.invariant_of-self
invariant_of-self c =
    let d = (goal.at.invariant_of-self c).After-unit_count-units in
    let s = c.self.inside in
    let k = c.args.caller in
    let K = c.self.invariant.1 in
    let early = c.if-open-before.false in
    let history =
    c.push_reserved-2.ensures.items ∙ ap (λ (e : Entry). s.lists.history.items ++ e ∷ [])
    c.history_entry_of_call-entry.ensures in
    let takers = c.push_reserved.ensures.items in
    let events = events_are d c.push_reserved-2.new.self.items history in
    let caller : k < (b d).callers =
    subst (λ (v : Content). k < v.setup.callers) (sym c.self.view_is) c.requires.caller in
    let new = claimed (b d) (h d) (x d) (l d) (I d) c.board_laws.ensures (more d early) k caller (running d)
    c.if-self.false in
    let w = within d early in
    let room = K.room in
    let takers_room = K.takers_room in
    let lengths = ap (λ (xs : List ℕ). length xs) takers in
    let lengths2 = ap (λ (xs : List Entry). length xs) history in
    let lists : List ℕ → Lists = λ xs. record (x d) { takers = xs } in (
      subst (λ (z : List (Event Answer)). IsBoard (b d) z (lists c.push_reserved.new.self.items) (l d)) (sym events)
          (subst (λ (xs : List ℕ). IsBoard (b d) (h d ++ event d ∷ []) (lists xs) (l d)) (sym takers) new),
      record {
        room = omega (
          arith,
          w,
          room,
          lengths,
          lengths2,
          length-append s.lists.takers.items (k ∷ []),
          length-append s.lists.history.items (entry d ∷ []),
          c.push_reserved-2.ensures.capacity,
        );
        takers_room = omega (arith, takers_room, c.push_reserved.ensures.capacity);
        entries_are = entries_more (h d) (events_of (units d) (x d).kept c.push_reserved-2.new.self.items) (event d)
            s.lists.history.items c.push_reserved-2.new.self.items events
            (history ∙ ap (λ (e : Event Answer). s.lists.history.items ++ entry_of e ∷ []) (event_is d)) K.entries_are;
        store = K.store;
        left = K.left;
        next = K.next;
      },
      c.self.invariant.2,
    )

pub returns-clause-answer : goal.returns-clause-answer
returns-clause-answer c =
    answered c.self.view_is (given (goal.at.returns-clause-answer c).After-unit_count-units c.if-open-before.false)

pub returns-clause-after : goal.returns-clause-after
returns-clause-after c =
    let d = (goal.at.returns-clause-after c).After-unit_count-units in
    let s = c.self.inside in
    let history =
    c.push_reserved-2.ensures.items ∙ ap (λ (e : Entry). s.lists.history.items ++ e ∷ [])
    c.history_entry_of_call-entry.ensures in
    ap (content (b d)) (events_are d c.push_reserved-2.new.self.items history)
    ∙ followed c.self.view_is (given d c.if-open-before.false) c.args.caller

pub returns-clause-task : goal.returns-clause-task
returns-clause-task c =
    let d = (goal.at.returns-clause-task c).After-unit_count-units in
    let b = setup_in c.self.inside in
    let early = c.if-open-before.false in
    let task = c.fill_task.new.into in
    let is = ap (λ (i : ℕ). slice_get (units_of b.market) i) (sym (unit_is d)) ∙ c.fill_task.ensures.unit in
    let some = partner (λ (a : AnyUnit) (t : Schedule). IsFeasible a b.market.periods t) (units_of b.market) b.plan
    (unit d) (task_unit task) (I d).setup.feasible.feasible is in
    let prices = c.fill_task.ensures.prices ∙ c.prices-prices.ensures (blank 0) ∙
    ap (λ (i : ℕ). (get_or (l d).proposals i (blank 0)).prices) (before_is d) ∙
    price_is b (h d) (x d) (l d) (I d) (before d) (blank 0) (more d early) in
    let own : IsOwnTask (content b (h d)) (before d + 1) (unit d) task = record {
      proposal = c.fill_task.ensures.proposal ∙ ap (λ (i : ℕ). i + 1) (before_is d);
      number = c.fill_task.ensures.number ∙ unit_is d;
      prices = prices;
      unit = is;
      some_schedule = some.0;
      feasible = some.1;
    } in
    left c.self.view_is (given d early) c.args.into.now task own

pub prices-prices-requires : goal.prices-prices-requires
prices-prices-requires c =
    let B = (I (goal.at.prices-prices-requires c).After-unit_count-units) in
    open_place (c.len-number.result / c.unit_count-units.result) c.opened-open.result c.self.inside.ledger.opened
    c.self.inside.terms.budget (length c.self.inside.ledger.proposals) c.if-open-before.false c.opened-open.ensures
    B.ledger.opened B.ledger.count

pub fill_task-requires-clause-room : goal.fill_task-requires-clause-room
fill_task-requires-clause-room c =
    subst (λ (v : Content). IsTaskFor v.setup.market.periods c.args.into.now) (sym c.self.view_is) c.requires.room

pub history_entry_of_call-entry-requires-clause-caller : goal.history_entry_of_call-entry-requires-clause-caller
history_entry_of_call-entry-requires-clause-caller c =
    caller_few c.args.caller c.self.inside.terms.callers MOST_CALLERS
    (subst (λ (v : Content). c.args.caller < v.setup.callers) (sym c.self.view_is) c.requires.caller)
    c.self.invariant.0.setup.callers

pub history_entry_of_call-entry-requires-clause-proposal : goal.history_entry_of_call-entry-requires-clause-proposal
history_entry_of_call-entry-requires-clause-proposal c =
    let B = c.self.invariant.0 in
    open_few (c.len-number.result / c.unit_count-units.result) c.opened-open.result c.self.inside.ledger.opened
    c.self.inside.terms.budget MOST_PROPOSALS c.if-open-before.false c.opened-open.ensures B.ledger.opened
    B.setup.budget

pub returns-clause-room : goal.returns-clause-room
returns-clause-room c =
    subst (λ (v : Content). IsTaskFor v.setup.market.periods c.fill_task.new.into) c.self.view_is
    c.fill_task.ensures.room

pub returns-then-open-closed-clause-room : goal.returns-then-open-closed-clause-room
returns-then-open-closed-clause-room c = c.requires.room

pub returns-then-self-clause-room : goal.returns-then-self-clause-room
returns-then-self-clause-room c = c.requires.room

pub returns-then-open-before-clause-room : goal.returns-then-open-before-clause-room
returns-then-open-before-clause-room c = c.requires.room
