pub mod Served
pub mod Doors
