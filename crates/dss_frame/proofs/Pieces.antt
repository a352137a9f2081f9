-- More bytes, pieces, and calls.
pub mod Stable
pub mod NextStep
pub mod Pieces
pub mod Calls
