-- The names from elsewhere that the proofs here cite.
pub mod Common
-- mixture_laws.rt, mixture_check.rt: what is refused of a mixture is what keeps it from being one
pub mod RefusedLaws
-- worst.rt: the greatest of some numbers
pub mod Greatest
-- worst.rt: what energy prices add is concave, so the greatest is where it stops to rise
pub mod Concave
-- mixture_sums.rt, flat.rt: sums over lists, item by item, and how large they are
pub mod MixtureSumLaws
-- flat.rt: what the blocks of a bid gain at best
pub mod Bought
-- planes.rt, plane_sums.rt: products and sums within bounds
pub mod Bounds
-- planes.rt: sums in a list, as they run while a number is added at each place
pub mod Running
-- plane_sums.rt, ranges.rt, rows_bound.rt: weighted sums of planes, as they run while a row is added in front
pub mod SumLaws
-- rows_bound.rt, ranges.rt: the rows and weights from a place on
pub mod RowLists
-- ranges.rt: the sums of the rows from a place to the last, each once
pub mod BackSums
-- ranges.rt: the least of some numbers, the first of them in a tie, found from the last one back
pub mod Least
-- ranges.rt: the bound by a range of rows is the bound by those rows alone
pub mod RangeLaws
-- ranges.rt: the first of the candidates with the least bound
pub mod FirstLeast
-- The lemmas that answers cite.
pub mod Lemmas
