-- Laws for the code that checks a table and fills its index. The first two files are for the crates above.
-- Assumes nothing.
pub mod Filled
pub mod Ready
mod Searches
mod Entering
mod Rules
mod Alike
mod Flags
mod Gather
mod Runs
mod Shared
mod Judged
mod Marks
mod Renumbering
mod Ways
