pub mod Taken
pub mod Found
pub mod Plain
pub mod Each
