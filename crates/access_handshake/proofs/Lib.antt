pub mod Levels
pub mod Short
pub mod Commands
