-- One object and members, and what is read of them.
pub mod Bytes
pub mod Read
pub mod Finding
pub mod Within
pub mod Spelled
pub mod Faults
