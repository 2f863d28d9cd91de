pub mod Mixtures
pub mod MixtureBound
pub mod MixtureRefused
pub mod MixtureSizes
pub mod MixtureLaws
pub mod CertifiedBound
pub mod Candidates
pub mod PlaneSums
