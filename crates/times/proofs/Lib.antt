-- The node of a time as it is put, and what is answered for a time.
-- Assumes nothing.
pub mod Nodes
pub mod Alone
