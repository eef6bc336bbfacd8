-- The entries of a table's index (FORMATS, "Tables"), for the contracts of the code: no definition of the verdict rests on them.
-- Assumes nothing.
pub mod Entries
pub mod Descriptors
