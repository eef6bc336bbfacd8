-- The kinds of types, for the contracts of the code (FORMATS, "Tables").
-- Assumes nothing.
pub mod Kinds
