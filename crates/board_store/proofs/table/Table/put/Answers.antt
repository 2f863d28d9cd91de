use Rattle.board_store.proofs.Common.{length, sym, ◌∙◌, refl, arith, vec_capacity}
use Rattle.board_store.proofs.Lemmas.{rows_more, table_more, runs_few, lengths_free, values_free, left_some, left_less}
use Rattle.board_store.proofs.Lemmas.{long_is, inside, row_whole, blank_first}
use Rattle.board_store.proofs.table.Table.put.Goals as goal

pub index-like-requires : goal.index-like-requires
index-like-requires g c =
    let s = c.self.inside in
    let lt = inside _ s.long _ s.starts.items s.lengths.items s.values.items c.self.view_is c.args.like
    c.requires.like in
    omega (arith, lt)

pub find_or_append_runs_of_row-start-requires-clause-like : goal.find_or_append_runs_of_row-start-requires-clause-like
find_or_append_runs_of_row-start-requires-clause-like g c =
    let s = c.self.inside in
    row_whole s.long s.starts.items s.used s.lengths.items s.values.items (vec_capacity s.lengths)
    (vec_capacity s.values) c.self.invariant c.args.like c.index-like.result.now
    (inside _ s.long _ s.starts.items s.lengths.items s.values.items c.self.view_is c.args.like c.requires.like)
    c.index-like.ensures (length c.args.row.now)
    (c.requires.long ∙ sym (long_is _ s.long _ s.starts.items s.lengths.items s.values.items c.self.view_is))

pub find_or_append_runs_of_row-start-requires-clause-first : goal.find_or_append_runs_of_row-start-requires-clause-first
find_or_append_runs_of_row-start-requires-clause-first g c =
    let s = c.self.inside in
    blank_first s.long s.starts.items s.used s.lengths.items s.values.items (vec_capacity s.lengths)
    (vec_capacity s.values) c.self.invariant c.args.row.now
    (c.requires.long ∙ sym (long_is _ s.long _ s.starts.items s.lengths.items s.values.items c.self.view_is))

pub find_or_append_runs_of_row-start-requires-clause-few : goal.find_or_append_runs_of_row-start-requires-clause-few
find_or_append_runs_of_row-start-requires-clause-few g c =
    let s = c.self.inside in
    runs_few s.long s.starts.items s.used s.lengths.items s.values.items (vec_capacity s.lengths)
    (vec_capacity s.values) c.self.invariant
    (left_some _ s.long _ s.starts.items s.lengths.items s.values.items c.self.view_is s.used refl c.requires.left)

pub find_or_append_runs_of_row-start-requires-clause-lengths_room :
    goal.find_or_append_runs_of_row-start-requires-clause-lengths_room
find_or_append_runs_of_row-start-requires-clause-lengths_room g c =
    let s = c.self.inside in
    let free = lengths_free s.long s.starts.items s.used s.lengths.items s.values.items (vec_capacity s.lengths)
    (vec_capacity s.values) c.self.invariant
    (left_some _ s.long _ s.starts.items s.lengths.items s.values.items c.self.view_is s.used refl c.requires.left) in
    let k = long_is _ s.long _ s.starts.items s.lengths.items s.values.items c.self.view_is in
    omega (arith, free, k, c.requires.long, s.lengths.ok.0)

pub find_or_append_runs_of_row-start-requires-clause-values_room :
    goal.find_or_append_runs_of_row-start-requires-clause-values_room
find_or_append_runs_of_row-start-requires-clause-values_room g c =
    let s = c.self.inside in
    let free = values_free s.long s.starts.items s.used s.lengths.items s.values.items (vec_capacity s.lengths)
    (vec_capacity s.values) c.self.invariant
    (left_some _ s.long _ s.starts.items s.lengths.items s.values.items c.self.view_is s.used refl c.requires.left) in
    let k = long_is _ s.long _ s.starts.items s.lengths.items s.values.items c.self.view_is in
    omega (arith, free, k, c.requires.long, s.values.ok.0, c.self.invariant.pairs)

pub index_mut-requires : goal.index_mut-requires
index_mut-requires g c =
    let s = c.self.inside in
    let lt = inside _ s.long _ s.starts.items s.lengths.items s.values.items c.self.view_is c.args.index
    c.requires.index in
    omega (arith, lt)

pub invariant_of-self : goal.invariant_of-self
invariant_of-self g c =
    let s = c.self.inside in
    let at = c.find_or_append_runs_of_row-start in
    table_more s.long s.starts.items s.used s.lengths.items s.values.items (vec_capacity s.lengths)
    (vec_capacity s.values) c.self.invariant
    (left_some _ s.long _ s.starts.items s.lengths.items s.values.items c.self.view_is s.used refl c.requires.left)
    c.args.index at.result c.args.row.now
    (c.requires.long ∙ sym (long_is _ s.long _ s.starts.items s.lengths.items s.values.items c.self.view_is))
    at.new.lengths.items at.new.values.items at.ensures.there at.ensures.few (vec_capacity at.new.lengths)
    (vec_capacity at.new.values) at.ensures.lengths_capacity at.ensures.values_capacity

pub returns-clause-rows : goal.returns-clause-rows
returns-clause-rows g c =
    let s = c.self.inside in
    let at = c.find_or_append_runs_of_row-start in
    rows_more _ s.long _ s.starts.items s.lengths.items s.values.items c.self.view_is s.used (vec_capacity s.lengths)
    (vec_capacity s.values) c.self.invariant c.args.index at.result c.args.row.now
    (c.requires.long ∙ sym (long_is _ s.long _ s.starts.items s.lengths.items s.values.items c.self.view_is))
    at.new.lengths.items at.new.values.items at.ensures.there

pub returns-clause-long : goal.returns-clause-long
returns-clause-long g c =
    let s = c.self.inside in
    long_is _ s.long _ s.starts.items s.lengths.items s.values.items c.self.view_is

pub returns-clause-left : goal.returns-clause-left
returns-clause-left g c =
    let s = c.self.inside in
    left_less _ s.long _ s.starts.items s.lengths.items s.values.items c.self.view_is s.used c.args.index
    c.find_or_append_runs_of_row-start.result refl
