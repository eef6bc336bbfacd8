-- Answers as one number for C.
-- Assumes nothing.
pub mod Pack
