-- Laws of the entries of a table's index.
-- The first is for every crate above; what else is public is for the checker's proofs.
-- Assumes nothing.
pub mod Promises
pub mod Entries
pub mod Packing
mod Descriptors
mod Listed
