-- Values of the types of a table, what may be sent for them, and what it means.
-- Assumes nothing.
-- What may be sent: no reader and no writer.
pub mod Value
pub mod Tags
pub mod Content
pub mod Encodes
pub mod Typed
pub mod Shaped
pub mod Equivalent
-- What the writer sends, how values and messages are judged, what is answered.
pub mod Form
pub mod Judging
pub mod Awaited
pub mod Reading
pub mod Outcome
pub mod Calls
pub mod Reckoning
pub mod Conversion
-- What the demands say.
pub mod Demands
