-- What is written is read back, and nothing else is accepted.
-- Assumes nothing.
pub mod Identifiers
pub mod Lengths
pub mod Items
pub mod Integers
pub mod BitString
pub mod Segmented
pub mod Segments
pub mod Times
