use Rattle.uc_model.proofs.Common.{◌≡◌, ◌+◌, ◌<◌, ◌*◌, ◌-◌, List, length, drop, slice_get, sym, ap, ◌∙◌, arith}
use Rattle.uc_model.proofs.Common.{slice_index_or, Block, period_numbers}
use Rattle.uc_model.proofs.Lemmas.{period_lists, within_period, behind_period}
use Rattle.uc_model.proofs.task_numbers.flattened_bid_blocks_number_at.Goals as goal

pub returns-then-left-size : goal.returns-then-left-size
returns-then-left-size c =
    let lists = c.args.b.now.blocks.items in
    let same = ap (λ (bs : List Block). length bs) c.as_slice-blocks.ensures in
    let all_ = c.as_slice-period-items.ensures in
    let low : c.loop-period.period-index < length lists = rw (← all_) c.loop-period-test.true in
    let is : c.period-item.result ≡ slice_index_or lists c.loop-period.period-index c.period-item.result =
    rw (← all_) c.period-item.is in
    c.flattened_period_blocks_number_at.ensures
    ∙ ap (λ (bs : List Block). slice_get (period_numbers bs) c.loop-period.left) c.as_slice-blocks.ensures
    ∙ sym (within_period lists c.loop-period.period-index c.loop-period.left c.period-item.result low is
    (omega (arith, c.if-left-size.true, same)))
    ∙ sym c.loop-period.invariant.rest

pub loop-period-preserved : goal.loop-period-preserved
loop-period-preserved c =
    let lists = c.args.b.now.blocks.items in
    let same = ap (λ (bs : List Block). length bs) c.as_slice-blocks.ensures in
    let all_ = c.as_slice-period-items.ensures in
    let low : c.loop-period.period-index < length lists = rw (← all_) c.loop-period-test.true in
    let is : c.period-item.result ≡ slice_index_or lists c.loop-period.period-index c.period-item.result =
    rw (← all_) c.period-item.is in
    record {
      rest = c.loop-period.invariant.rest
          ∙ behind_period lists c.loop-period.period-index c.loop-period.left c.period-item.result low is
          (omega (arith, c.if-left-size.false, same))
          ∙ ap (λ n. slice_get (period_lists (drop (c.loop-period.period-index + 1) lists))
          (c.loop-period.left - (1 + 2 * n))) (sym same);
    }
