-- Laws of the kinds.
-- Assumes nothing.
pub mod Same
pub mod Identifiers
