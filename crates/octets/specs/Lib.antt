-- Definitions that every crate shares: tests, lists, numbers of two octets, what readers answer, what a buffer holds, orders of lists.
-- Assumes nothing.
pub mod Tests
pub mod Lists
pub mod Numbers
pub mod Answer
pub mod Buffers
pub mod Permutations
