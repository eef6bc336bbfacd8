-- What the definitions of times come to.
-- Assumes nothing.
pub mod Cases
pub mod Days
pub mod Ordered
pub mod Dates
pub mod Ranges
pub mod Tomorrow
pub mod Differences
pub mod TimeOctets
pub mod Theorems
pub mod Centuries
