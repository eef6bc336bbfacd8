-- What the packed answers tell, and that they fit.
-- Assumes nothing.
pub mod Boundary
pub mod Reckonings
pub mod Back
pub mod Small
