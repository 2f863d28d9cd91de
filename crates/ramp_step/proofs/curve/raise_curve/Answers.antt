use Rattle.ramp_step.proofs.Common.{◌≡◌, ℕ, ◌+◌, length, get_or, refl, sym, ap, ◌∙◌, subst, arith, rules, to_z, of_z}
use Rattle.ramp_step.proofs.Common.{pos, FitsSigned, w64, ints, to_z-of_z, Block, Knot, knot, IsAmount, block_end}
use Rattle.ramp_step.proofs.Common.{curve_term, AreRaisedSoFar}
use Rattle.ramp_step.proofs.Lemmas.{IsNextEnd, next_end, end_coded, curve_begins}
use Rattle.ramp_step.proofs.RaiseLaws.{next_level, CanRaise-begin, CanRaise-on_block, AreRaisedSoFar-begin}
use Rattle.ramp_step.proofs.RaiseLaws.{AreRaisedSoFar-more, AreRaised-so_far}
use Rattle.ramp_step.proofs.curve.raise_curve.Goals as goal
use Rattle.ramp_step.proofs.curve.raise_curve.Goals.{In-loop-block}

-- where the loop is
record Here (c : In-loop-block) : Type 0 where
  from : to_z w64 (of_z w64 c.args.from) ≡ c.args.from
  value : to_z w64 (of_z w64 c.args.value) ≡ c.args.value
  start : to_z w64 c.loop-block.start-bits ≡ block_end c.args.blocks.now c.args.from c.loop-block.block-index
  level : to_z w64 c.loop-block.level-bits ≡ curve_term c.args.value c.args.blocks.now c.args.from
      (block_end c.args.blocks.now c.args.from c.loop-block.block-index)
  end : IsNextEnd c.args.blocks.now c.args.from c.loop-block.block-index (record { width = pos 0; price = pos 0 })

here : (c : In-loop-block) → Here c
here c =
    let from = to_z-of_z w64 c.args.from c.ranges.from in
    let value = to_z-of_z w64 c.args.value c.ranges.value in
    record {
      from = from;
      value = value;
      start = rw from at c.loop-block.invariant.start;
      level = rw (from, value) at c.loop-block.invariant.level;
      end = next_end c.requires.curve.lowest c.args.blocks.now c.args.from c.loop-block.block-index
          (record { width = pos 0; price = pos 0 }) c.requires.curve.blocks c.requires.curve.ends (omega arith);
    }

pub raise_block-done-requires-clause-level : goal.raise_block-done-requires-clause-level
raise_block-done-requires-clause-level c =
    rw (to_z-of_z w64 c.args.value c.ranges.value)
    (subst IsAmount (curve_begins c.args.value c.args.blocks.now c.args.from c.requires.curve)
    (c.requires.curve.values 0 (omega arith)))

pub raise_block-done-requires-clause-fits : goal.raise_block-done-requires-clause-fits
raise_block-done-requires-clause-fits c = λ k some h upto.
    let e-from = to_z-of_z w64 c.args.from c.ranges.from in
    rw (e-from, to_z-of_z w64 c.args.value c.ranges.value)
    (CanRaise-begin c.args.value c.args.blocks.now c.args.from (knot c.args.knots.now k) c.requires.curve
    (c.requires.low k h) (rw e-from at upto)
    (c.requires.before k h) (c.requires.after k h))

pub loop-block-init : goal.loop-block-init
loop-block-init c =
    let e-from = to_z-of_z w64 c.args.from c.ranges.from in
    let e-value = to_z-of_z w64 c.args.value c.ranges.value in
    record {
      raised = rw (e-from, e-value) (AreRaisedSoFar-begin c.args.value c.args.blocks.now c.args.from c.args.used
          c.raise_block-done.result c.args.knots.now c.raise_block-done.new.knots
          c.requires.curve c.requires.rise c.requires.low (rw (e-from, e-value) at c.raise_block-done.ensures));
      start = refl;
      level = rw (e-from, e-value) (sym (curve_begins c.args.value c.args.blocks.now c.args.from c.requires.curve));
    }

pub overflow_add-end : goal.overflow_add-end
overflow_add-end c = let h = here (goal.at.overflow_add-end c).In-loop-block in omega (arith, ints)

pub raise_block-done-requires-in-loop-block-clause-fits : goal.raise_block-done-requires-in-loop-block-clause-fits
raise_block-done-requires-in-loop-block-clause-fits c = λ k past h upto.
    let bs = c.args.blocks.now in
    let j = c.loop-block.block-index in
    let d : Block = record { width = pos 0; price = pos 0 } in
    let l = here (goal.at.raise_block-done-requires-in-loop-block-clause-fits c).In-loop-block in
    let fits-price : FitsSigned w64 (get_or bs j d).price = search rules in
    let end = end_coded bs c.args.from j d _ l.start l.end in
    let same = c.loop-block.invariant.raised.rest k past in
    let at = ap (λ (q : Knot). q.at) same in
    let beyond = (rw (l.from, l.value) at c.loop-block.invariant.raised).beyond k past h in
    rw (l.start, l.level, to_z-of_z w64 (get_or bs j d).price fits-price, same)
    (CanRaise-on_block c.args.value bs c.args.from j d (knot c.args.knots.now k) c.requires.curve (omega arith)
    beyond (omega (arith, ints))
    (c.requires.before k h) (c.requires.after k h))

pub along-level-requires-clause-after : goal.along-level-requires-clause-after
along-level-requires-clause-after c =
    let v = c.args.value in
    let bs = c.args.blocks.now in
    let j = c.loop-block.block-index in
    let d : Block = record { width = pos 0; price = pos 0 } in
    let l = here (goal.at.along-level-requires-clause-after c).In-loop-block in
    let fits-price : FitsSigned w64 (get_or bs j d).price = search rules in
    let fits-width : FitsSigned w64 (get_or bs j d).width = search rules in
    rw (l.level, to_z-of_z w64 (get_or bs j d).price fits-price, to_z-of_z w64 (get_or bs j d).width fits-width)
    (subst IsAmount (sym (next_level v bs c.args.from j d c.requires.curve (omega arith) l.end.rise))
    (c.requires.curve.values (j + 1) (omega arith)))

pub loop-block-preserved : goal.loop-block-preserved
loop-block-preserved c =
    let v = c.args.value in
    let bs = c.args.blocks.now in
    let j = c.loop-block.block-index in
    let d : Block = record { width = pos 0; price = pos 0 } in
    let l = here (goal.at.loop-block-preserved c).In-loop-block in
    let fits-price : FitsSigned w64 (get_or bs j d).price = search rules in
    let fits-width : FitsSigned w64 (get_or bs j d).width = search rules in
    let e-price = to_z-of_z w64 (get_or bs j d).price fits-price in
    let e-end = end_coded bs c.args.from j d _ l.start l.end in
    let raised = rw (l.from, l.value) at c.loop-block.invariant.raised in
    let done = c.raise_block-done-in-loop-block in
    let e-level : to_z w64 (of_z w64 c.along-level.result) ≡ c.along-level.result =
    to_z-of_z w64 _ (record { sfits = c.along-level.type_inv }) in
    let along = rw (l.level, e-price, to_z-of_z w64 (get_or bs j d).width fits-width) at c.along-level.ensures in
    record {
      raised = rw (l.from, l.value) (AreRaisedSoFar-more v bs c.args.from j c.args.used c.loop-block.done done.result d
          c.args.knots.now c.loop-block.knots done.new.knots c.requires.curve (omega arith)
          c.requires.rise raised (rw (e-end, l.start, l.level, e-price) at done.ensures));
      start = rw l.from e-end;
      level = rw (l.from, l.value) (e-level ∙ along ∙
          next_level v bs c.args.from j d c.requires.curve (omega arith) l.end.rise);
    }

pub returns : goal.returns
returns c =
    let bs = c.args.blocks.now in
    let raised = rw (to_z-of_z w64 c.args.from c.ranges.from, to_z-of_z w64 c.args.value c.ranges.value) at
    c.loop-block.invariant.raised in
    AreRaised-so_far c.args.value bs c.args.from c.args.used c.loop-block.done c.args.knots.now c.loop-block.knots
    c.requires.high
    (subst (λ (j : ℕ). AreRaisedSoFar c.args.value bs c.args.from j c.args.used c.loop-block.done c.args.knots.now
    c.loop-block.knots) {x = c.loop-block.block-index} {y = length bs} (omega arith) raised)
