use Rattle.board_store.proofs.Common.{arith, vec_capacity, List, length, ap}
use Rattle.board_store.proofs.Lemmas.{rows_blank, table_blank, laid_first}
use Rattle.board_store.proofs.table.Table.make.Goals as goal

pub invariant_of-result : goal.invariant_of-result
invariant_of-result g c =
    let b = c.append_runs_of_value in
    let none = ap (λ (xs : List _). length xs) c.in_ok-lengths.ensures.items in
    table_blank c.args.long c.args.count c.in_ok-starts.starts.items b.new.lengths.items b.new.values.items
    (vec_capacity b.new.lengths) (vec_capacity b.new.values) c.args.blank c.in_ok-starts.ensures b.ensures.added.pairs
    (omega (arith, b.ensures.few, none)) (laid_first _ _ _ _ _ b.ensures.added c.in_ok-lengths.ensures.items)
    c.requires.few c.requires.size
    (omega (arith, b.ensures.lengths_capacity, c.in_ok-lengths.ensures))
    (omega (arith, b.ensures.values_capacity, c.in_ok-values.ensures))

pub returns-clause-rows : goal.returns-clause-rows
returns-clause-rows g c =
    rows_blank c.args.long c.args.count c.in_ok-starts.starts.items c.append_runs_of_value.new.lengths.items
    c.append_runs_of_value.new.values.items c.args.blank c.in_ok-starts.ensures
    (laid_first _ _ _ _ _ c.append_runs_of_value.ensures.added
    c.in_ok-lengths.ensures.items)
