-- What the contracts of the check cite beside the definitions of `table` and `records`.
-- Assumes nothing.
pub mod Marks
pub mod Gathering
pub mod Index
pub mod Lent
