pub mod Keeping
pub mod Pieces
pub mod Handshakes
pub mod Calls
pub mod Whole
pub mod Leaving
