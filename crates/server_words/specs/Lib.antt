pub mod Field
pub mod Command
pub mod Serve
pub mod Member
