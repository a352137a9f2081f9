pub mod OneDss
pub mod Spellings
pub mod Pieces
pub mod Streams
pub mod Loops
