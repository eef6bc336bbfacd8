-- What is answered for a time that is handed in alone.
-- Assumes nothing.
pub mod Alone
