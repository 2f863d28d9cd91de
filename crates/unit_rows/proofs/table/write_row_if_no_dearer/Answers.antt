use Rattle.unit_rows.proofs.Common.{rules, ◌≡◌, ◌≤ℤ◌, Some, List, Option, ap, to_z, of_z, FitsSigned, w64}
use Rattle.unit_rows.proofs.Common.{to_z-of_z, Ended, row_at, arith, length}
use Rattle.unit_rows.proofs.Lemmas.{written_added, written_old}
use Rattle.unit_rows.proofs.table.write_row_if_no_dearer.Goals as goal

pub returns-then-is_no_dearer_than_row-clause-old : goal.returns-then-is_no_dearer_than_row-clause-old
returns-then-is_no_dearer_than_row-clause-old c =
    let fits : FitsSigned w64 c.args.ended.cost = search rules in
    let cost : to_z w64 (of_z w64 c.args.ended.cost) ≡ c.args.ended.cost = to_z-of_z w64 _ fits in
    let low : (r : Ended) → row_at c.args.table.now.items c.args.last ≡ Some r → c.args.ended.cost ≤ℤ r.cost =
    λ r row. rw cost at (c.is_no_dearer_than_row.ensures.yes c.if-is_no_dearer_than_row.true r
    (cc)) in
    written_old c.args.table.now.items c.set.new.self.items c.args.last c.args.ended c.requires.room c.set.ensures.items
    low

pub returns-then-is_no_dearer_than_row-clause-added : goal.returns-then-is_no_dearer_than_row-clause-added
returns-then-is_no_dearer_than_row-clause-added c =
    written_added c.args.table.now.items c.set.new.self.items c.args.last c.args.ended c.requires.room
    c.set.ensures.items

pub bounds-as_slice-last : goal.bounds-as_slice-last
bounds-as_slice-last c =
    let same = ap (λ (xs : List (Option Ended)). length xs) c.as_slice.ensures in
    omega arith

pub offset_bounds-as_slice-last : goal.offset_bounds-as_slice-last
offset_bounds-as_slice-last c =
    let same = ap (λ (xs : List (Option Ended)). length xs) c.as_slice.ensures in
    omega arith
