-- What the contracts of the code cite beside the definitions of `x690`: identifiers as numbers, what the functions answer, items passed over.
-- Assumes nothing.
pub mod Codes
pub mod Told
pub mod Skipping
