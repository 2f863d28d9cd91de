use Rattle.board_store.proofs.Common.{List, length, refl, ap, ◌∙◌, arith, vec_capacity, length-take-le, from_run}
use Rattle.board_store.proofs.Lemmas.{long_is, inside, row_whole, row_read, seen_whole, seen_row}
use Rattle.board_store.proofs.table.Table.take.Goals as goal

pub index-requires : goal.index-requires
index-requires g c =
    let s = c.self.inside in
    let lt = inside _ s.long _ s.starts.items s.lengths.items s.values.items c.self.view_is c.args.index
    c.requires.index in
    omega (arith, lt)

pub expand_runs_into_row-requires-clause-whole : goal.expand_runs_into_row-requires-clause-whole
expand_runs_into_row-requires-clause-whole g c =
    let s = c.self.inside in
    seen_whole s.lengths.items c.deref.result.now s.values.items c.deref-2.result.now c.index.result.now s.long
    c.deref.ensures.value c.deref-2.ensures.value
    (row_whole s.long s.starts.items s.used s.lengths.items s.values.items (vec_capacity s.lengths)
    (vec_capacity s.values) c.self.invariant c.args.index c.index.result.now
    (inside _ s.long _ s.starts.items s.lengths.items s.values.items c.self.view_is c.args.index c.requires.index)
    c.index.ensures s.long refl)

pub expand_runs_into_row-requires-clause-room : goal.expand_runs_into_row-requires-clause-room
expand_runs_into_row-requires-clause-room g c =
    let s = c.self.inside in
    let k = long_is _ s.long _ s.starts.items s.lengths.items s.values.items c.self.view_is in
    omega (arith, k, c.requires.room, c.clear.ensures.spare)

pub returns-clause-row : goal.returns-clause-row
returns-clause-row g c =
    let s = c.self.inside in
    seen_row s.lengths.items c.deref.result.now s.values.items c.deref-2.result.now c.index.result.now s.long
    c.deref.ensures.value c.deref-2.ensures.value c.clear.new.self.items c.expand_runs_into_row.new.into.items
    c.clear.ensures.items
    c.expand_runs_into_row.ensures
    ∙ row_read _ s.long _ s.starts.items s.lengths.items s.values.items c.self.view_is c.args.index c.index.result.now
    c.requires.index c.index.ensures

pub returns-clause-long : goal.returns-clause-long
returns-clause-long g c =
    let s = c.self.inside in
    ap (λ (xs : List _). length xs)
    (seen_row s.lengths.items c.deref.result.now s.values.items c.deref-2.result.now c.index.result.now s.long
    c.deref.ensures.value c.deref-2.ensures.value c.clear.new.self.items c.expand_runs_into_row.new.into.items
    c.clear.ensures.items
    c.expand_runs_into_row.ensures)
    ∙ length-take-le s.long (from_run s.lengths.items s.values.items c.index.result.now)
    (row_whole s.long s.starts.items s.used s.lengths.items s.values.items (vec_capacity s.lengths)
    (vec_capacity s.values) c.self.invariant c.args.index c.index.result.now
    (inside _ s.long _ s.starts.items s.lengths.items s.values.items c.self.view_is c.args.index c.requires.index)
    c.index.ensures s.long refl)
    ∙ long_is _ s.long _ s.starts.items s.lengths.items s.values.items c.self.view_is
