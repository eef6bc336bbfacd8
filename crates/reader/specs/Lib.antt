-- What the reader does item by item, in terms of the definitions of reading.
-- Assumes nothing.
pub mod Codes
pub mod Answers
pub mod Items
pub mod Ways
pub mod Records
pub mod Sought
pub mod Wraps
pub mod Standing
pub mod Judging
pub mod Weights
pub mod Placing
pub mod Leaves
pub mod Placed
