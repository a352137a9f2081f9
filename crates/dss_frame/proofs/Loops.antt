-- The code's loops.
pub mod Walk
pub mod Scan
pub mod Extending
