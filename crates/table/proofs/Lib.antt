-- Reading a table's octets is the inverse of the octet form, and the tests of the rules agree with the rules.
-- The first two are for every crate above; what is public behind them is for the proofs of `records` and `checker`.
-- Assumes nothing.
pub mod Theorems
pub mod Promises
pub mod Pieces
pub mod Own
pub mod Reading
pub mod Scan
pub mod Decided
pub mod Walk
pub mod Nodes
pub mod Straight
pub mod Fields
pub mod Loops
mod Causes
mod Places
mod Limits
mod Spelled
mod Rounds
mod Runs
