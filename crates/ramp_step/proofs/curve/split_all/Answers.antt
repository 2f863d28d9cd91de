use Rattle.ramp_step.proofs.Common.{◌≡◌, ℕ, ◌+◌, ◌-◌, length, get_or, refl, sym, ap, ◌∙◌, subst, arith, to_z, of_z, pos}
use Rattle.ramp_step.proofs.Common.{◌+ℤ◌, w64, ints, to_z-of_z, IsLimited, block_end, IsRefined, spaced}
use Rattle.ramp_step.proofs.Lemmas.{IsNextEnd, next_end, end_coded, IsRefined-none, IsRefined-more, spaced_moved}
use Rattle.ramp_step.proofs.Lemmas.{spaced_closed, StandFor-same, IsLimited-same, IsRefined-same, AreBelow-moved}
use Rattle.ramp_step.proofs.curve.split_all.Goals as goal
use Rattle.ramp_step.proofs.curve.split_all.Goals.{In-loop-block}

-- where the loop is
record Here (c : In-loop-block) : Type 0 where
  from : to_z w64 (of_z w64 c.args.from) ≡ c.args.from
  at : to_z w64 c.loop-block.end-bits ≡ block_end c.args.blocks.now c.args.from c.loop-block.block-index
  end : IsNextEnd c.args.blocks.now c.args.from c.loop-block.block-index (record { width = pos 0; price = pos 0 })

here : (c : In-loop-block) → Here c
here c =
    let from = to_z-of_z w64 c.args.from c.ranges.from in
    record {
      from = from;
      at = rw from at c.loop-block.invariant.end;
      end = next_end c.requires.ascending.0 c.args.blocks.now c.args.from c.loop-block.block-index
          (record { width = pos 0; price = pos 0 }) c.requires.ascending.1 c.requires.powers (omega arith);
    }

pub loop-block-init : goal.loop-block-init
loop-block-init c =
    let ks = c.args.knots.now in
    let bs = c.args.blocks.now in
    let k1 = c.open.new.knots in
    let same = spaced_moved ks k1 (length bs) c.args.used c.open.ensures in
    let count : c.args.used ≡ (c.args.used + length bs) - length bs = omega arith in
    record {
      refined = subst (λ (n : ℕ). IsRefined bs (to_z w64 (of_z w64 c.args.from)) 0 ks c.args.used
          (spaced k1 0 (length bs)) n) count
          (IsRefined-same ks (spaced k1 0 (length bs)) c.args.used same bs (to_z w64 (of_z w64 c.args.from)) 0 ks
          c.args.used (IsRefined-none bs (to_z w64 (of_z w64 c.args.from)) ks c.args.used));
      limits = subst (λ (n : ℕ). IsLimited (spaced k1 0 (length bs)) n) count
          (IsLimited-same ks (spaced k1 0 (length bs)) c.args.used same c.requires.limits);
      order = omega arith;
      cells = omega arith;
      end = refl;
      below = λ k h. absurd (omega arith);
    }

pub fill-room-requires-clause-stand : goal.fill-room-requires-clause-stand
fill-room-requires-clause-stand c =
    let old = spaced c.loop-block.knots c.loop-block.front c.loop-block.room in
    let new = spaced c.advance-front.new.knots c.advance-front.result c.loop-block.room in
    let n = (c.args.used + length c.args.blocks.now) - c.loop-block.room in (
      c.requires.stand.0,
      StandFor-same old new n c.advance-front.ensures.same c.requires.stand.0
          (c.loop-block.invariant.refined.function c.requires.stand.0 c.requires.stand.1),
    )

pub fill-room-requires-clause-limits : goal.fill-room-requires-clause-limits
fill-room-requires-clause-limits c = IsLimited-same _ _ _ c.advance-front.ensures.same c.loop-block.invariant.limits

pub fill-room-requires-clause-below : goal.fill-room-requires-clause-below
fill-room-requires-clause-below c =
    let bs = c.args.blocks.now in
    let l = here (goal.at.fill-room-requires-clause-below c).In-loop-block in
    let x = to_z w64
    (of_z w64 (to_z w64 c.loop-block.end-bits +ℤ to_z w64
    (of_z w64 (get_or bs c.loop-block.block-index (record { width = pos 0; price = pos 0 })).width))) in
    AreBelow-moved c.loop-block.knots c.advance-front.new.knots c.loop-block.front c.advance-front.result
    c.loop-block.room ((c.args.used + length bs) - c.loop-block.room) x c.advance-front.ensures
    (λ k h. let b = c.loop-block.invariant.below k h in omega (arith, ints))

pub returns : goal.returns
returns c =
    let ks = c.loop-block.knots in
    let bs = c.args.blocks.now in
    let total = c.args.used + length bs in
    let room = c.loop-block.room in
    let refined = rw (to_z-of_z w64 c.args.from c.ranges.from) at c.loop-block.invariant.refined in
    let closed = spaced_closed ks c.drop_from.new.knots c.loop-block.front room total c.loop-block.invariant.order
    (omega arith) c.drop_from.ensures in
    record {
      refined = subst (λ (j : ℕ). IsRefined bs c.args.from j c.args.knots.now c.args.used c.drop_from.new.knots
          (total - room)) {x = c.loop-block.block-index} {y = length bs} (omega arith)
          (IsRefined-same (spaced ks c.loop-block.front room) c.drop_from.new.knots (total - room) closed bs c.args.from
          c.loop-block.block-index c.args.knots.now c.args.used refined);
      limits = IsLimited-same (spaced ks c.loop-block.front room) c.drop_from.new.knots (total - room) closed
          c.loop-block.invariant.limits;
      charge = omega arith;
    }

pub overflow_add-end : goal.overflow_add-end
overflow_add-end c = let l = here (goal.at.overflow_add-end c).In-loop-block in omega (arith, ints)

pub loop-block-preserved : goal.loop-block-preserved
loop-block-preserved c =
    let bs = c.args.blocks.now in
    let j = c.loop-block.block-index in
    let from = to_z w64 (of_z w64 c.args.from) in
    let l = here (goal.at.loop-block-preserved c).In-loop-block in
    let old = spaced c.loop-block.knots c.loop-block.front c.loop-block.room in
    let mid = spaced c.advance-front.new.knots c.advance-front.result c.loop-block.room in
    let new = spaced c.fill-room.new.knots c.advance-front.result c.fill-room.result in
    let total = c.args.used + length bs in
    let end = end_coded bs c.args.from j _ _ l.at l.end ∙ ap (λ z. block_end bs z (j + 1)) (sym l.from) in
    record {
      refined = IsRefined-more bs from j c.args.knots.now mid new c.args.used (total - c.loop-block.room)
          (total - c.fill-room.result) _
          (IsRefined-same old mid (total - c.loop-block.room) c.advance-front.ensures.same bs from j c.args.knots.now
          c.args.used c.loop-block.invariant.refined)
          c.fill-room.ensures.split (sym end);
      limits = c.fill-room.ensures.limits;
      order = omega arith;
      cells = omega arith;
      end = end;
      below = c.fill-room.ensures.below.before;
    }
