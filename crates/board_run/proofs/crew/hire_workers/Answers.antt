use Rattle.board_run.proofs.Common.{ap, refl, arith, Setup, view_of}
use Rattle.board_run.proofs.Lemmas.{hired_first, hired_again, crew_all}
use Rattle.board_run.proofs.crew.hire_workers.Goals as goal

pub loop-init : goal.loop-init
loop-init c =
    let b = (view_of c.args.owner).setup in
    let e = c.in_ok-workers.ensures in
    record {
      hired = hired_first b c.args.board.now c.args.owner _ c.requires.own refl c.requires.new e.items;
      room = e.capacity;
    }

pub split-requires : goal.split-requires
split-requires c = record { own = c.loop.invariant.hired.own }

pub unreachable-requires : goal.unreachable-requires
unreachable-requires c =
    let h = c.loop.invariant.hired in
    let made = h.made in
    let callers = ap (λ (b : Setup). b.callers) h.setup in
    let count = c.requires.count in
    let none = c.in_default.ensures.none.0 in
    let below = c.loop-test.true in
    absurd (omega (arith, made, callers, count, none, below))

pub push_reserved-requires : goal.push_reserved-requires
push_reserved-requires c =
    let h = c.loop.invariant.hired in
    let count = h.count in
    let room = c.loop.invariant.room in
    let below = c.loop-test.true in
    omega (arith, count, room, below)

pub loop-preserved : goal.loop-preserved
loop-preserved c =
    let b = (view_of c.args.owner).setup in
    let l = c.loop in
    let split = c.in-Some.ensures in
    let made = c.in_ok-make.ensures in
    let p = c.push_reserved.ensures in
    let room = l.invariant.room in
    let same = p.capacity in
    record {
      hired =
          hired_again b c.args.board.now l.owner c.split.new.seat c.in-Some.seat l.counter l.workers.items _
          c.in_ok-make.field-0 l.invariant.hired split.board split.given split.owner made.seat
          (made.parts b.market c.requires.horizon c.requires.points) p.items;
      room = omega (arith, room, same);
    }

pub push_reserved-requires-2 : goal.push_reserved-requires-2
push_reserved-requires-2 c =
    let h = c.loop.invariant.hired in
    let count = h.count in
    let room = c.loop.invariant.room in
    let last = c.loop.auto.counter-end c.requires.some in
    omega (arith, count, room, last)

pub returns : goal.returns
returns c =
    let b = (view_of c.args.owner).setup in
    let made = c.in_ok-make-2.ensures in
    let callers = c.requires.count in
    let last = c.loop.auto.counter-end c.requires.some in
    record {
      crew =
          crew_all b c.args.board.now c.loop.owner c.loop.counter c.loop.workers.items _ c.in_ok-make-2.field-0
          (omega (arith, callers, last)) c.loop.invariant.hired made.seat
          (made.parts b.market c.requires.horizon c.requires.points)
          c.push_reserved-2.ensures.items;
    }
