pub mod Settling
pub mod Pieces
