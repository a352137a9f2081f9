pub mod Session
pub mod Members
pub mod Told
pub mod Steps
pub mod Inputs
pub mod Memory
pub mod Closing
pub mod Laws
