-- The names from elsewhere that the proofs here cite.
pub mod Common
-- ---- src/check.rt: the first refusal
-- lists of refusals: when one is empty, and what its first item is
pub mod ToldLaws
-- the first refusal over lists of rules and of units
pub mod FindLaws
-- what is refused of a plan is what keeps it from being feasible
pub mod PlanLaws
-- ---- src/rules.rt: the rules of a thermal unit
-- how long a unit has been on or off, and the tests of the minimum times
pub mod RunLaws
-- the last change before a period
pub mod ChangeLaws
-- what is refused of a thermal unit's schedule is what keeps it from being feasible
pub mod ThermalLaws
-- ---- src/totals.rt: sums over all units
-- each response of a plan covers the horizon
pub mod ShapeLaws
-- sums over units are sums over their schedules
pub mod SystemLaws
-- ---- src/costs.rt: what schedules cost
-- what a block is worth, and the powers of on periods within the cost points
pub mod CostSums
-- ---- for crates that stand on this one
-- the schedules of a plan for thermal units and for the others
pub mod UnitsApart
-- The lemmas that answers cite.
pub mod Lemmas
