-- The names from elsewhere that the proofs here cite.
pub mod Common
-- ---- src/draws.rt
-- the words of a generator that has moved on are those behind the ones that it gave
pub mod WordLaws
-- what follows from draws that are within their ranges
pub mod Bounds
-- ---- src/units.rt and src/renewables.rt
-- a generated thermal unit is within the limits
pub mod UnitLaws
-- a generated renewable unit is within the limits, and giving its greatest power is feasible
pub mod RenewableLaws
-- ---- src/renewables.rt, src/schedules.rt and src/make.rt
-- a loop that pushes what a function gives at each place
pub mod Loops
-- ---- src/growing.rt and src/make.rt
-- the sums of generated schedules, and how large they can be
pub mod SumLaws
-- ---- src/make.rt
-- what is drawn after so many words is what stands at that place
pub mod LaterLaws
-- a unit that stays as it is before the horizon keeps all rules
pub mod FeasibleLaws
-- what is built step by step is the generated case and schedule
pub mod MadeLaws
-- a generated case is within the limits, and its schedule is feasible
pub mod MarketLaws
-- The lemmas that answers cite.
pub mod Lemmas
