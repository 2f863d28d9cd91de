use Rattle.board_store.proofs.Common.{◌≡◌, length, refl, arith}
use Rattle.board_store.proofs.Lemmas.{some_cell, at_there, at_added, seen_whole}
use Rattle.board_store.proofs.table.find_or_append_runs_of_row.Goals as goal

pub are_runs_equal_to_row-requires-clause-whole : goal.are_runs_equal_to_row-requires-clause-whole
are_runs_equal_to_row-requires-clause-whole g c =
    seen_whole c.args.lengths.now.items c.as_slice.result.now c.args.values.now.items c.as_slice-2.result.now
    c.args.like (length c.args.row.now) c.as_slice.ensures.value c.as_slice-2.ensures.value c.requires.like

pub returns-then-are_runs_equal_to_row-clause-there : goal.returns-then-are_runs_equal_to_row-clause-there
returns-then-are_runs_equal_to_row-clause-there g c =
    at_there c.args.lengths.now.items c.as_slice.result.now c.args.values.now.items c.as_slice-2.result.now
    c.args.row.now c.args.like c.requires.pairs c.requires.like c.as_slice.ensures.value c.as_slice-2.ensures.value
    (c.if-are_runs_equal_to_row.ensures.0 refl)

pub are_runs_equal_to_row-requires-2-clause-whole : goal.are_runs_equal_to_row-requires-2-clause-whole
are_runs_equal_to_row-requires-2-clause-whole g c =
    seen_whole c.args.lengths.now.items c.as_slice-3.result.now c.args.values.now.items c.as_slice-4.result.now 0
    (length c.args.row.now) c.as_slice-3.ensures.value c.as_slice-4.ensures.value c.requires.first

pub returns-then-are_runs_equal_to_row-2-clause-there : goal.returns-then-are_runs_equal_to_row-2-clause-there
returns-then-are_runs_equal_to_row-2-clause-there g c =
    at_there c.args.lengths.now.items c.as_slice-3.result.now c.args.values.now.items c.as_slice-4.result.now
    c.args.row.now 0 c.requires.pairs c.requires.first c.as_slice-3.ensures.value c.as_slice-4.ensures.value
    (c.if-are_runs_equal_to_row-2.ensures.0 refl)

pub append_row-requires-clause-some : goal.append_row-requires-clause-some
append_row-requires-clause-some g c =
    some_cell 0 c.as_slice-3.result.now c.as_slice-4.result.now c.args.row.now
    (λ is. let yes = c.if-are_runs_equal_to_row-2.ensures.1 is in cc (yes))

pub returns-clause-there : goal.returns-clause-there
returns-clause-there g c =
    let n : c.len-behind.result ≡ length c.args.lengths.now.items =
    omega (arith, c.len-behind.ensures, c.args.values.now.ok.0, c.requires.pairs) in
    at_added c.args.lengths.now.items c.args.values.now.items c.append_row.new.lengths.items
    c.append_row.new.values.items
    c.args.row.now c.len-behind.result c.requires.pairs c.append_row.ensures.added n
