pub mod Cell
pub mod Chain
pub mod Laws
