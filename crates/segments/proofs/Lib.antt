-- Laws of the code that reads and joins segments.
-- Assumes nothing.
pub mod Joining
pub mod Gathering
pub mod SegmentCode
pub mod JoinCode
