pub mod Small
-- a bench for shapes in a pool
pub mod PoolBenches
