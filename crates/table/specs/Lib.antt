-- Type tables: what they are, what their octets are, when they pass (FORMATS, "Tables", "Limits", "Refusals" 1 to 6, "Order of refusals").
-- Assumes nothing.
pub mod Syntax
pub mod Octets
pub mod Rules
pub mod Reading
pub mod Decide
pub mod Verdict
pub mod Cause
pub mod Passes
pub mod Fields
pub mod Walk
