-- What the contracts of the code cite beside the definitions of `x690`.
-- Assumes nothing.
pub mod Integers
