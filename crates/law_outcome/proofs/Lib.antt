-- The names from elsewhere that the proofs here cite.
pub mod Common
-- at most one thing is due
pub mod OneDue
-- what follows from an outcome
pub mod OutcomeLaws
-- what is promised of a refused schedule
pub mod NoSchedule
-- what is promised of a bound
pub mod BoundPromise
-- what is promised of the two runs of `hull fixed`
pub mod FixedPromise
-- what is promised of an audit
pub mod AuditPromise
-- what is promised of a settlement
pub mod SettlePromise
-- what is promised of a certificate
pub mod CertifyPromise
-- what is promised of a search
pub mod ConvexPromise
-- the text of a settlement tells the settlement
pub mod SettledTexts
-- the text of a search tells what was found
pub mod SearchTexts
-- two runs of the same words print the same
pub mod SameOutput
-- a settlement at any prices
pub mod SettlementsExist
-- where a table gives a value, its tests held
pub mod TableLaws
-- what is read of a schedule's file has the shape of a plan
pub mod PlanShapes
-- what is read of a mixture's file has the shape of one
pub mod MixtureShapes
-- something is due of every command
pub mod SomethingDue
-- The lemmas that answers cite.
pub mod Lemmas
