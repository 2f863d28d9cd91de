pub mod Building
pub mod CostCurve
pub mod Edges
pub mod EnvelopePieces
