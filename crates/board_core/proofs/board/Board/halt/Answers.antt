use Rattle.board_core.proofs.Common.{◌≡◌, ◌<◌, ◌++◌, ◌∷◌, [], List, length, get_or, subst, sym, ap, ◌∙◌, arith, Bool}
use Rattle.board_core.proofs.Common.{true, false, cond, length-append, get_or_default, list_any, Answer, Content}
use Rattle.board_core.proofs.Common.{after_halt, Event, Stopped, is_halt_of, Entry, unit_count, events_of, Lists}
use Rattle.board_core.proofs.Common.{IsBoard, Setup, task_count, unset, set, vec_capacity, ◌-◌, ℕ}
use Rattle.board_store.specs.declared.entries.Call.TheVariants as calls
use Rattle.board_store.specs.declared.entries.Reply.TheVariants as replies
use Rattle.board_core.proofs.Lemmas.{content, events_more, entries_more, stopped, not_yet, one_less, halted_lists}
use Rattle.board_core.proofs.Lemmas.{halt_place, halt_room, caller_few}
use Rattle.plain_lists.specs.declared.limits.TheConstants.{MOST_CALLERS}
use Rattle.board_core.proofs.Lemmas.{setup_in, events_in, lists_in}
use Rattle.board_core.proofs.board.Board.halt.Goals as goal
use Rattle.board_core.proofs.board.Board.halt.Goals.{After-index}

module _ (c : After-index) where
  abbrev b : Setup
  b = setup_in c.self.inside

  abbrev h : List (Event Answer)
  h = events_in c.self.inside

  abbrev x : Lists
  x = lists_in c.self.inside

  caller : c.args.caller < b.callers
  caller = subst (λ (v : Content). c.args.caller < v.setup.callers) (sym c.self.view_is) c.requires

  place : c.args.caller < length x.halted
  place = halt_place b h x c.self.inside.ledger c.self.invariant.0 c.args.caller caller

  was : get_or x.halted c.args.caller false ≡ c.index.result.now
  was = get_or_default x.halted c.args.caller false c.index.result.now place ∙ sym c.index.ensures

  abbrev entry : Entry
  entry = record { caller = c.args.caller; call = calls.Halt; proposal = 0; unit = 0; reply = replies.Stopped }

  events_are : (entries : List Entry) → entries ≡ c.self.inside.lists.history.items ++ entry ∷ [] →
      events_of (unit_count b.market) x.kept entries ≡ h ++ Stopped c.args.caller ∷ []
  events_are entries longer =
      events_more (unit_count b.market) x.kept c.self.inside.lists.history.items entries entry longer

  followed : (t : Bool) → list_any (is_halt_of c.args.caller) h ≡ t →
      content b (cond t h (h ++ Stopped c.args.caller ∷ [])) ≡ after_halt c.args.self.now c.args.caller
  followed t e = sym (ap (λ (z : Bool). content b (cond z h (h ++ Stopped c.args.caller ∷ []))) e) ∙
      ap (λ (v : Content). after_halt v c.args.caller) c.self.view_is

pub index-requires : goal.index-requires
index-requires c =
    let s = c.self.inside in
    subst (λ (n : ℕ). c.args.caller < n) (sym s.lists.halted.ok.0)
    (halt_place (setup_in s) (events_in s) (lists_in s) s.ledger c.self.invariant.0 c.args.caller
    (subst (λ (v : Content). c.args.caller < v.setup.callers) (sym c.self.view_is) c.requires))

pub index_mut-requires : goal.index_mut-requires
index_mut-requires c = subst (λ (n : ℕ). c.args.caller < n) (sym c.self.inside.lists.halted.ok.0)
    (place (goal.at.index_mut-requires c).After-index)

pub push_reserved-requires : goal.push_reserved-requires
push_reserved-requires c =
    let d = (goal.at.push_reserved-requires c).After-index in
    let s = c.self.inside in
    subst (λ (n : ℕ). n < vec_capacity s.lists.history) (sym s.lists.history.ok.0)
    (halt_room (length s.lists.history.items) (task_count (b d) - length s.lists.takers.items)
    (unset s.lists.marks.items) (unset s.lists.halted.items) (unset (set s.lists.halted.items c.args.caller true))
    (vec_capacity s.lists.history) c.self.invariant.1.room
    (one_less s.lists.halted.items c.args.caller (place d) (was d ∙ c.if-index.false)))

pub returns-then-index : goal.returns-then-index
returns-then-index c =
    let d = (goal.at.returns-then-index c).After-index in
    sym c.self.view_is ∙
    followed d true (sym (c.self.invariant.0.halts.each c.args.caller (caller d)) ∙ was d ∙ c.if-index.true)

pub invariant_of-self : goal.invariant_of-self
invariant_of-self c =
    let d = (goal.at.invariant_of-self c).After-index in
    let s = c.self.inside in
    let k = c.args.caller in
    let K = c.self.invariant.1 in
    let first = was d ∙ c.if-index.false in
    let history =
    c.push_reserved.ensures.items ∙ ap (λ (e : Entry). s.lists.history.items ++ e ∷ [])
    c.history_entry_of_call-entry.ensures in
    let events = events_are d c.push_reserved.new.self.items history in
    let less = one_less s.lists.halted.items k (place d) first in
    let room = K.room in
    let long = ap (λ (xs : List Entry). length xs) history in (
      subst (λ (z : List (Event Answer)). IsBoard (b d) z (halted_lists (x d) k) s.ledger) (sym events)
          (stopped (b d) (h d) (x d) s.ledger c.self.invariant.0 k (caller d) first c.board_laws.ensures),
      record {
        room = omega (
          arith,
          room,
          less,
          long,
          length-append s.lists.history.items (entry d ∷ []),
          c.push_reserved.ensures.capacity,
        );
        takers_room = K.takers_room;
        entries_are = entries_more (h d) (events_of (unit_count (b d).market) (x d).kept c.push_reserved.new.self.items)
            (Stopped k) s.lists.history.items c.push_reserved.new.self.items events history K.entries_are;
        store = K.store;
        left = K.left;
        next = K.next;
      },
      c.self.invariant.2,
    )

pub returns : goal.returns
returns c =
    let d = (goal.at.returns c).After-index in
    let s = c.self.inside in
    let history =
    c.push_reserved.ensures.items ∙ ap (λ (e : Entry). s.lists.history.items ++ e ∷ [])
    c.history_entry_of_call-entry.ensures in
    ap (content (b d)) (events_are d c.push_reserved.new.self.items history)
    ∙ followed d false (not_yet (b d) (h d) (x d) s.ledger c.self.invariant.0 c.args.caller (caller d)
    (was d ∙ c.if-index.false))

pub history_entry_of_call-entry-requires-clause-caller : goal.history_entry_of_call-entry-requires-clause-caller
history_entry_of_call-entry-requires-clause-caller c =
    caller_few c.args.caller c.self.inside.terms.callers MOST_CALLERS
    (subst (λ (v : Content). c.args.caller < v.setup.callers) (sym c.self.view_is) c.requires)
    c.self.invariant.0.setup.callers
