-- lib.rt: how what a sink holds grows
pub mod GrownLemmas
-- file.rt: how the front that was read grows
pub mod ReadLemmas
