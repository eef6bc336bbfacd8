-- Laws of the code of contents octets.
-- Assumes nothing.
pub mod IntegerCode
pub mod LastOctets
pub mod Sizes
