use Rattle.board_core.proofs.Common.{◌≡◌, ◌≤◌, ℕ, ◌*◌, Bool, false, List, [], length, min, sym, ap, ◌∙◌, subst, arith}
use Rattle.board_core.proofs.Common.{le-mul_of_pos_right, MOST_TASKS, MOST_WORK, Setup, IsSetup}
use Rattle.board_core.proofs.Common.{length-map-range_with_len, replicate, Answer, entries_of, Event, Entry, unit_count}
use Rattle.board_core.proofs.Common.{start_prices, setup_of, events_of, blank_ledger, with_openings, Lists, unset}
use Rattle.board_core.proofs.Common.{task_count, IsBoard}
use Rattle.board_core.proofs.Lemmas.{IsOpened, opened}
use Rattle.board_core.proofs.Starts.{starts, all_unset}
use Rattle.board_core.proofs.board.Board.make.Goals as goal

-- so many tasks, where their work is within its limit
within : (tasks periods : ℕ) → 1 ≤ periods → tasks * periods ≤ MOST_WORK → tasks ≤ MOST_TASKS
within tasks periods some size = let more = le-mul_of_pos_right tasks some in omega arith

few : (b : Setup) (S : IsSetup b) (units : ℕ) → units ≡ unit_count b.market → b.budget * units ≤ MOST_TASKS
few b S units is = rw is (within (b.budget * unit_count b.market) b.market.periods S.market.horizon.at_least S.size)

pub make_empty_event_lists-requires-clause-tasks : goal.make_empty_event_lists-requires-clause-tasks
make_empty_event_lists-requires-clause-tasks c =
    few (setup_of c.args.terms) c.requires c.unit_count.result c.unit_count.ensures.value

pub make-requires-2-clause-few : goal.make-requires-2-clause-few
make-requires-2-clause-few c = few (setup_of c.args.terms) c.requires c.unit_count.result c.unit_count.ensures.value

pub make-requires-2-clause-size : goal.make-requires-2-clause-size
make-requires-2-clause-size c = rw c.unit_count.ensures.value c.requires.size

pub make_ledger_with_open_proposals-requires-clause-horizon :
    goal.make_ledger_with_open_proposals-requires-clause-horizon
make_ledger_with_open_proposals-requires-clause-horizon c = c.in_ok-room.ensures.next

pub invariant_of-result : goal.invariant_of-result
invariant_of-result c =
    let b = setup_of c.args.terms in
    let m = b.market in
    let units = unit_count m in
    let start = start_prices m in
    let long : length start ≡ m.periods = length-map-range_with_len _ 0 m.periods in
    let l = c.in_ok-ledger.ledger in
    let is : l ≡ with_openings start (blank_ledger (length start) b.budget) (min b.budget b.ahead) =
    c.in_ok-ledger.ensures.ledger ∙ ap (λ (n : ℕ). with_openings start (blank_ledger n b.budget) (min b.budget b.ahead))
    (sym long) in
    let O = subst (IsOpened start b.budget (min b.budget b.ahead)) (sym is)
    (opened start b.budget (min b.budget b.ahead) (omega arith)) in
    let x = c.in_ok-lists.lists in
    let E = c.in_ok-lists.ensures in
    let tasks : b.budget * c.unit_count.result ≡ task_count b =
    ap (λ (n : ℕ). b.budget * n) c.unit_count.ensures.value in
    let kept = c.in_ok-store.store.answers in
    let new = starts b (c.board_laws.ensures.of b) c.requires l O kept
    (c.in_ok-store.ensures.count ∙ tasks) in
    let e1 : x.marks.items ≡ replicate (task_count b) false = E.marks ∙ ap (λ (n : ℕ). replicate n false) tasks in
    let e2 : x.counts.items ≡ replicate b.budget 0 = E.counts in
    let e3 : x.halted.items ≡ replicate b.callers false = E.halted in
    let e4 : x.takers.items ≡ [] = E.takers in
    let e5 : events_of units kept x.history.items ≡ [] = ap (events_of units kept) E.history in
    let lists : (takers : List ℕ) (marks : List Bool) (counts : List ℕ) (halted : List Bool) → Lists =
    λ takers marks counts halted. record {
      takers = takers;
      marks = marks;
      kept = kept;
      counts = counts;
      halted = halted;
      any_halt = false;
    } in
    let t1 = subst (λ (xs : List Bool). IsBoard b [] (lists [] xs (replicate b.budget 0) (replicate b.callers false)) l)
    (sym e1) new in
    let t2 = subst (λ (xs : List ℕ). IsBoard b [] (lists [] x.marks.items xs (replicate b.callers false)) l) (sym e2)
    t1 in
    let t3 = subst (λ (xs : List Bool). IsBoard b [] (lists [] x.marks.items x.counts.items xs) l) (sym e3) t2 in
    let t4 = subst (λ (xs : List ℕ). IsBoard b [] (lists xs x.marks.items x.counts.items x.halted.items) l) (sym e4)
    t3 in
    let t5 = subst (λ (xs : List (Event Answer)). IsBoard b xs
    (lists x.takers.items x.marks.items x.counts.items x.halted.items) l) (sym e5) t4 in
    let u1 = ap unset e1 ∙ all_unset (task_count b) in
    let u2 = ap unset e3 ∙ all_unset b.callers in
    let l1 = ap (λ (xs : List Entry). length xs) E.history in
    let l2 = ap (λ (xs : List ℕ). length xs) e4 in (
      t5,
      record {
        room = omega (arith, u1, u2, l1, l2, tasks, E.room);
        takers_room = omega (arith, tasks, E.takers_room);
        entries_are = ap entries_of e5 ∙ sym E.history;
        store = c.in_ok-store.ensures.periods;
        left = omega (arith, u1, tasks, c.in_ok-store.ensures.left);
        next = c.make_ledger_with_open_proposals.ensures.horizon;
      },
      c.in_ok-room.ensures.own,
    )
