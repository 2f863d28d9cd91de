pub mod Told
pub mod RightReport
pub mod RecordReport
pub mod RightSide
pub mod Laws
pub mod Existence
