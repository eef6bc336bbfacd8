-- What the program of cases prints.
-- Assumes nothing.
pub mod Output
