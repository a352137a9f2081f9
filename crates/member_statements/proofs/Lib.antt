pub mod Keys
pub mod Parts
pub mod Read
pub mod Spelled
