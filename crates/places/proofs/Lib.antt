-- Laws of the words on lists, for the proofs of every crate above.
pub mod Walks
pub mod Counted
pub mod Lists
pub mod Tests
pub mod Searches
pub mod Tight
