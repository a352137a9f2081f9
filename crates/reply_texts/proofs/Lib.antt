pub mod Cards
pub mod InPlace
pub mod Writing
