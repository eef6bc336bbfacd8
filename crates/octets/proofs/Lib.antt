-- Laws that every crate shares: on tests, lists, octets by their places, answers of readers, orders of lists.
-- Assumes nothing.
pub mod Tests
pub mod Lists
pub mod Search
pub mod Tabulate
pub mod Members
pub mod Answer
pub mod Permutations
pub mod Buffers
