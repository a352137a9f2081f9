pub mod Triplets
pub mod Seen
