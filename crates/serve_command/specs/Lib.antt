pub mod Members
pub mod Serve
