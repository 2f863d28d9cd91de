-- The names from elsewhere that the proofs here cite.
pub mod Common
-- chosen.rt: the settlement at the prices of the chosen row
pub mod SettleLaws
-- bound.rt: the best bound round the chosen prices of a run
pub mod BoundLaws
-- sides.rt: the sides of `hull fixed`
pub mod SideLaws
-- copies.rt, fix.rt, held_laws.rt: the fixed case of a plan, and what holds of it
pub mod Fixing
-- held_laws.rt: a unit that is held to a commitment
pub mod Held
-- copies.rt, fix.rt: items of lists that are mapped, and of plans
pub mod Items
-- answers.rt: the answers of units, one after another
pub mod Answered
-- settle.rt: what all units earn, and what sums of it are worth
pub mod Earned
-- The lemmas that answers cite.
pub mod Lemmas
