-- X.690 with no table: identifier octets, length octets, items, contents of integers, bit strings and times; and how items are read.
-- Assumes nothing.
pub mod Identifier
pub mod Length
pub mod Item
pub mod Integer
pub mod BitString
pub mod Reading
pub mod Segments
pub mod Time
