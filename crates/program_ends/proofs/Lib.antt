pub mod Ends
pub mod Commanding
