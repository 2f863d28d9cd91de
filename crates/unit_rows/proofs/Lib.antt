-- The names from elsewhere that the proofs here cite.
pub mod Common
-- the table before the first period
pub mod BeginLaws
-- the ends that the next start may follow, a period later, and the cheapest start
pub mod OriginLaws
-- when the unit has been off for long enough
pub mod RipeLaws
-- rows of the table, and one of them written
pub mod RowLaws
-- the cost of a start is within the limits of a lag's cost
pub mod StartCosts
-- linear arithmetic over whole numbers
pub mod Arithmetic
-- the limits, as they are written from the last period back
pub mod LimitListLaws
-- the prices at which an end of the points has the least net cost
pub mod NetLaws
-- The lemmas that answers cite.
pub mod Lemmas
