-- Laws of the code of the contents of times.
-- Assumes nothing.
pub mod TimeCode
