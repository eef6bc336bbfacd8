-- Times by Gregory's calendar: ranges, days and seconds, order, centuries, the octets of a node.
-- Assumes nothing.
pub mod Calendar
pub mod Seconds
pub mod Century
pub mod Own
