use Rattle.slope_list.proofs.Common.{◌≡◌, ℕ, suc, ◌+◌, ◌<◌, List, length, Some, sym, ap, ◌∙◌, arith, rules, to_z}
use Rattle.slope_list.proofs.Common.{FitsSigned, ◌+ℤ◌, ◌-ℤ◌, ◌*ℤ◌, ◌≤ℤ◌, w64, ints, to_z-of_z, Block, block, width_to}
use Rattle.slope_list.proofs.Lemmas.{rise_to, same_le, coded, test_true, test_false}
use Rattle.slope_list.proofs.FindLaws.{fits_stop, coded_stop, value_to, may_go, block_rises, lt_le, rise_on}
use Rattle.slope_list.proofs.FindLaws.{value_at_end, before_end_of}
use Rattle.slope_list.proofs.blocks.cost_and_block_at_power.Goals as goal
use Rattle.slope_list.proofs.blocks.cost_and_block_at_power.Goals.{In-loop-index}

-- the block that the loop is at
record Here (c : In-loop-index) : Type 0 where
  inside : c.loop-index.index < length c.args.curve.now.blocks.items
  at : coded c.args.at ≡ c.args.at
  low : to_z w64 c.loop-index.from-bits ≤ℤ c.args.at
  stop : coded
      (coded (to_z w64 c.loop-index.from-bits +ℤ coded (block c.args.curve.now.blocks.items c.loop-index.index).width))
      ≡ c.args.curve.now.at +ℤ width_to c.args.curve.now.blocks.items (suc c.loop-index.index)

here : (c : In-loop-index) → Here c
here c =
    let cv = c.args.curve.now in
    let was = c.loop-index.invariant in
    let k = c.loop-index.index in
    let inside : k < length cv.blocks.items = rw c.as_slice-block-items.ensures at c.loop-index-test.true in
    let at = to_z-of_z w64 c.args.at c.ranges.at in
    record {
      inside = inside;
      at = at;
      low = rw at at was.low;
      stop = coded_stop cv c.requires.limited k inside _ _ was.from_is was.value_is;
    }

pub loop-index-init : goal.loop-index-init
loop-index-init c =
    let f : FitsSigned w64 c.args.curve.now.at = search rules in
    let g : FitsSigned w64 c.args.curve.now.value = search rules in
    rw (
      to_z-of_z w64 c.args.curve.now.at f,
      to_z-of_z w64 c.args.curve.now.value g,
      to_z-of_z w64 c.args.at c.ranges.at,
    )
    (record { from_is = omega (arith, ints); value_is = omega (arith, ints); low = c.requires.from })

pub overflow_add-piece : goal.overflow_add-piece
overflow_add-piece c =
    let h = here (goal.at.overflow_add-piece c).In-loop-index in
    rw c.as_slice-block-items.ensures (fits_stop c.args.curve.now c.requires.limited c.loop-index.index h.inside _ _
    c.loop-index.invariant.from_is c.loop-index.invariant.value_is)

pub value_at_power_in_piece-requires : goal.value_at_power_in_piece-requires
value_at_power_in_piece-requires c =
    let cv = c.args.curve.now in
    let was = c.loop-index.invariant in
    let h = here (goal.at.value_at_power_in_piece-requires c).In-loop-index in
    let fp : FitsSigned w64 (block cv.blocks.items c.loop-index.index).price = search rules in
    let price = to_z-of_z w64 (block cv.blocks.items c.loop-index.index).price fp in
    let items = c.as_slice-block-items.ensures in
    let below = test_true c.args.at (cv.at +ℤ width_to cv.blocks.items (suc c.loop-index.index)) _ _ h.at h.stop
    (rw items at c.if-at-piece.true) in
    rw (items, price, h.at) (may_go cv c.requires.limited c.loop-index.index h.inside _ _ was.from_is was.value_is
    c.args.at h.low (lt_le c.args.at _ below))

pub returns-then-at-piece : goal.returns-then-at-piece
returns-then-at-piece c =
    let cv = c.args.curve.now in
    let was = c.loop-index.invariant in
    let k = c.loop-index.index in
    let h = here (goal.at.returns-then-at-piece c).In-loop-index in
    let fp : FitsSigned w64 (block cv.blocks.items k).price = search rules in
    let price = to_z-of_z w64 (block cv.blocks.items k).price fp in
    let inside = h.inside in
    let items = c.as_slice-block-items.ensures in
    let below = test_true c.args.at (cv.at +ℤ width_to cv.blocks.items (suc k)) _ _ h.at h.stop
    (rw items at c.if-at-piece.true) in
    let fr : FitsSigned w64 c.value_at_power_in_piece.result = search rules in
    let got : c.value_at_power_in_piece.result ≡ to_z w64 c.loop-index.value-bits +ℤ (block cv.blocks.items k).price *ℤ
    (c.args.at -ℤ to_z w64 c.loop-index.from-bits) = rw (items, price, h.at) at c.value_at_power_in_piece.ensures in
    record {
      value = value_to cv c.requires.limited k inside _ _ was.from_is was.value_is c.args.at h.low
          (lt_le c.args.at _ below) ∙ ap Some (sym got ∙ sym (to_z-of_z w64 c.value_at_power_in_piece.result fr));
      blocks = omega arith;
      block = λ _. rw items (record { inside = inside; begun = rw was.from_is at h.low; ends = h.stop; price = price });
    }

pub value_at_power_in_piece-value-requires : goal.value_at_power_in_piece-value-requires
value_at_power_in_piece-value-requires c =
    let cv = c.args.curve.now in
    let was = c.loop-index.invariant in
    let k = c.loop-index.index in
    let h = here (goal.at.value_at_power_in_piece-value-requires c).In-loop-index in
    let fp : FitsSigned w64 (block cv.blocks.items k).price = search rules in
    let price = to_z-of_z w64 (block cv.blocks.items k).price fp in
    let up = block_rises cv c.requires.limited k h.inside _ _ was.from_is was.value_is in
    rw (c.as_slice-block-items.ensures, price, h.stop)
    (may_go cv c.requires.limited k h.inside _ _ was.from_is was.value_is
    (cv.at +ℤ width_to cv.blocks.items (suc k)) up (same_le (cv.at +ℤ width_to cv.blocks.items (suc k))))

pub loop-index-preserved : goal.loop-index-preserved
loop-index-preserved c =
    let cv = c.args.curve.now in
    let was = c.loop-index.invariant in
    let k = c.loop-index.index in
    let h = here (goal.at.loop-index-preserved c).In-loop-index in
    let fp : FitsSigned w64 (block cv.blocks.items k).price = search rules in
    let price = to_z-of_z w64 (block cv.blocks.items k).price fp in
    let items = c.as_slice-block-items.ensures in
    let past = test_false c.args.at (cv.at +ℤ width_to cv.blocks.items (suc k)) _ _ h.at h.stop
    (rw items at c.if-at-piece.false) in
    let fr : FitsSigned w64 c.value_at_power_in_piece-value.result = search rules in
    let got : c.value_at_power_in_piece-value.result ≡ to_z w64 c.loop-index.value-bits +ℤ
    (block cv.blocks.items k).price *ℤ
    ((cv.at +ℤ width_to cv.blocks.items (suc k)) -ℤ to_z w64 c.loop-index.from-bits) =
    rw (items, price, h.stop) at c.value_at_power_in_piece-value.ensures in
    let next : (cv.at +ℤ width_to cv.blocks.items (suc k)) ≡ cv.at +ℤ width_to cv.blocks.items (k + 1) =
    ap (λ (n : ℕ). cv.at +ℤ width_to cv.blocks.items n) {x = suc k} {y = k + 1} (omega arith) in
    let on = rise_on cv c.requires.limited k h.inside _ _ was.from_is was.value_is in
    let rise : (rise_to cv.blocks.items (suc k) +ℤ cv.value) ≡ rise_to cv.blocks.items (k + 1) +ℤ cv.value =
    ap (λ (n : ℕ). rise_to cv.blocks.items n +ℤ cv.value) {x = suc k} {y = k + 1} (omega arith) in
    rw (items, h.stop, h.at, to_z-of_z w64 c.value_at_power_in_piece-value.result fr)
    (record { from_is = next; value_is = got ∙ on ∙ rise; low = past })

pub returns : goal.returns
returns c =
    let cv = c.args.curve.now in
    let was = c.loop-index.invariant in
    let low = rw (to_z-of_z w64 c.args.at c.ranges.at) at was.low in
    let all : c.loop-index.index ≡ length cv.blocks.items =
    (let e = ap (λ (bs : List Block). length bs) c.as_slice-block-items.ensures in omega arith) in
    let end = before_end_of cv c.loop-index.index all (to_z w64 c.loop-index.from-bits) c.args.at was.from_is low in
    record {
      value = value_at_end cv c.requires.limited c.loop-index.index all (to_z w64 c.loop-index.from-bits)
          (to_z w64 c.loop-index.value-bits) c.args.at was.from_is was.value_is low c.requires.to;
      blocks = omega arith;
      block = λ h. absurd (omega (arith, ints, end, h));
    }
