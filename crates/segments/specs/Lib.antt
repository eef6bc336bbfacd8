-- What the contracts of the code cite beside the definitions of `x690`: what is answered of segments, and segments gathered by headers alone.
-- Assumes nothing.
pub mod Segments
