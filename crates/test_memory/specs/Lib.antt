pub mod Named
pub mod OfShelf
pub mod OfSink
pub mod OfSure
pub use Rattle.hull_io.specs.Edge
