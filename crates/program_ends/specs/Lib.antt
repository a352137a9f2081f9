pub mod Ends
pub mod Command
