-- The names from elsewhere that the proofs here cite.
pub mod Common
-- prepare.rt: the numbers of a run that words give are within their limits
pub mod WordSizes
-- prepare.rt: the audit of a report
pub mod AuditLaws
-- prepare.rt: a settlement at given prices
pub mod SettleLaws
-- prepare.rt: a certificate of given prices
pub mod CertifyLaws
-- prepare.rt: what a search found
pub mod ConvexLaws
-- prepare.rt: a run that is ready completes its command
pub mod RestLaws
-- end.rt: what is written of a run that has ended is the text of a right report
pub mod WriteLaws
-- lib.rt, end.rt, prepare.rt: the end of an answer is the outcome of its command
pub mod EndLaws
-- The lemmas that answers cite.
pub mod Lemmas
