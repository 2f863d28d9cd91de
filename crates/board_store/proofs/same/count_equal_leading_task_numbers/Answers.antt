use Rattle.board_store.proofs.Common.{◌≡◌, ◌≤◌, ◌+◌, ℕ, suc, pos, List, ◌++◌, length, length-append, map, refl, sym, ap}
use Rattle.board_store.proofs.Common.{subst, arith, length-map, get_or-map, AnyUnit, Bid, PriceLists, chosen_unit}
use Rattle.board_store.proofs.Common.{task_unit, bid_of, prices_of, items_in, task_numbers, Block, UnitKind, AreSame}
use Rattle.board_store.proofs.Lemmas.{numbers_of, same_cons, same_under}
use Rattle.board_store.proofs.Numbers.{periods_length}
use Rattle.board_store.proofs.same.count_equal_leading_task_numbers.Goals as goal

pub count_equal_leading_bid_numbers-requires-clause-counts : goal.count_equal_leading_bid_numbers-requires-clause-counts
count_equal_leading_bid_numbers-requires-clause-counts c = λ k d lt.
    let b = c.args.own.now.bid in
    subst (λ (bs : List Block). length bs ≤ 8) (get_or-map items_in b.blocks.items k d (items_in d) lt)
    ((b.valid.blocks k (items_in d) (omega (arith, lt, length-map b.blocks.items items_in))).count)

pub overflow_add-result-2 : goal.overflow_add-result-2
overflow_add-result-2 c =
    let t = c.args.own.now in
    let few = t.prices.valid.horizon.at_most in
    let both = t.prices.valid.lengths in
    let over = t.bid_horizon in
    let long = c.count_equal_leading_bid_numbers.ensures.own_long in
    let most = periods_length (map items_in t.bid.blocks.items) (λ k d lt. (t.bid.valid.blocks k d lt).count) in
    let energy = c.len.ensures in
    let reserve = c.len-2.ensures in
    omega (arith, few, both, over, long, most, energy, reserve, length-map t.bid.blocks.items items_in)

pub returns : goal.returns
returns c =
    let own = c.args.own.now in
    let task = c.args.task.now in
    let π = prices_of own.prices in
    let here : task_unit own ≡ Bid (bid_of own.bid) =
    ap (λ (k : UnitKind). chosen_unit k own.thermal own.flat own.bid) c.in-Bid.is in
    let there : task_unit task ≡ Bid (bid_of task.bid) =
    ap (λ (k : UnitKind). chosen_unit k task.thermal task.flat task.bid) c.in-Bid-kind.is in
    let same : π ≡ prices_of task.prices = c.same_prices.ensures.0 c.if-not-same_prices.false in
    let n = c.count_equal_leading_bid_numbers.result in
    let before = π.energy ++ π.reserve in
    let count : suc (length before + suc n) ≡ 2 + (c.len.result + c.len-2.result) + n =
    let energy = c.len.ensures in let reserve = c.len-2.ensures in
    omega (arith, energy, reserve, length-append π.energy π.reserve) in
    let S = same_cons (pos (length π.energy)) _ _ _
    (same_under before _ _ _ (length before + suc n) refl
    (same_cons (pos 2) (numbers_of own.bid.blocks.items) (numbers_of task.bid.blocks.items) n
    c.count_equal_leading_bid_numbers.ensures)) in
    subst (λ (z : AnyUnit × PriceLists × AnyUnit × ℕ). AreSame (task_numbers π z.0) (task_numbers z.1 z.2) z.3)
    (λ i. (sym here i, same i, sym there i, count i)) S
