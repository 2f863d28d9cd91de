-- The names from elsewhere that the proofs here cite.
pub mod Common
-- start.rt: the start price of a period, from the units in the order of their full-load prices
pub mod StartLaws
-- start.rt: what a case says of the units that prices are made from
pub mod CaseLaws
-- start.rt: the price that is found is the start price of the rule
pub mod RuleLaws
-- opening.rt: lists of opening prices
pub mod OpeningLaws
-- best_row.rt: the first greatest of a list of numbers
pub mod FirstGreatest
-- step.rt: sizes of squares and quotients
pub mod Squares
-- step.rt and next.rt: prices after a step are those of the price rule, within their limits
pub mod Steps
-- value.rt: sums of what units earn
pub mod EarnedSums
-- The lemmas that answers cite.
pub mod Lemmas
