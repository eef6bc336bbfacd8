-- Laws of the code that reads and puts X.690's octets, and of its answers.
-- Assumes nothing.
pub mod Places
pub mod Codes
pub mod Headers
pub mod Ends
pub mod Told
pub mod Skipping
