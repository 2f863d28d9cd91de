-- The names from elsewhere that the proofs here cite.
pub mod Common
-- ---- src/walk.rt and src/edges.rt: the edges of the envelope
-- the slope from a point to one of more power, rounded up
pub mod SlopeLaws
-- how an edge is found point by point, and what it says of all points
pub mod EdgeLaws
-- the search for the way on, and for the first point, at one more point
pub mod WayLaws
-- ---- src/laws.rt
-- what the envelope is at a vertex and on an edge, and what it earns at a price
pub mod EnvelopeValues
-- ---- src/costs.rt
-- the cost of a power on an edge, as the code computes it
pub mod CostLaws
-- ---- src/curves.rt
-- what blocks add, one block after another
pub mod CurveLaws
-- a curve has values at the powers from its first to its last
pub mod ValueLaws
-- a curve grows by the blocks of an edge, and is right once no edge leads on
pub mod BuildLaws
-- The lemmas that answers cite.
pub mod Lemmas
