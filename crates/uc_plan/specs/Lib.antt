pub mod Shapes
pub mod Plans
pub mod PlanFiles
pub mod Views
pub mod Added
pub mod Laws
