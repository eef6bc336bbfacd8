-- What the contracts of this crate cite.
-- Assumes nothing.
pub mod Nodes
pub mod Leaves
pub mod Frames
pub mod Known
pub mod Standing
pub mod Rows
pub mod Told
pub mod Notes
pub mod Putting
