-- Laws of the lines that the program prints, and examples of them.
-- Assumes nothing.
pub mod Digits
pub mod Lengths
pub mod Lines
pub mod Examples
