-- The names from elsewhere that the proofs here cite.
pub mod Common
-- linear arithmetic over ℤ
pub mod Arithmetic
-- a value that is there is one
pub mod Options
-- a function cut above a power, and a step before a stop that only cuts
pub mod CutLaws
-- what is noted of the last step of a spell
pub mod EndLaws
-- the numbers of a unit's step are within limits, and the curve of its points is a cost of the step
pub mod FairLaws
-- the frontier of a spell's first periods: its beginning, one more period, and the least costs read off it
pub mod FrontierLaws
-- a period of one spell behind a run of another
pub mod JoinLaws
-- entries of spells in a log
pub mod LogLaws
-- the best reserve for given powers
pub mod ReserveLaws
-- runs of periods: one more period, the periods that two schedules share, and dispatches
pub mod RunLaws
-- a step on a function of the power is one period of a spell
pub mod StepLaws
-- what a value was before something was added to it
pub mod SumLaws
-- the powers and the reserve of a period as they are stored, and that they stay within limits
pub mod ChoiceLaws
-- the entries of a spell in a log, read from the last one back
pub mod RestLaws
-- backtracking by what the steps noted
pub mod NoteLaws
-- periods that are on, and one before them
pub mod OnLaws
-- a way on from the power before a spell is a best dispatch, and the first of those of its cost
pub mod TieLaws
-- the periods that are written make, with what comes before them, a dispatch of least cost
pub mod WayLaws
-- The lemmas that answers cite.
pub mod Lemmas
