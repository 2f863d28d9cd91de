pub mod Shape
pub mod UnitShape
