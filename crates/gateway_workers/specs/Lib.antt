pub mod Doors
pub mod Dials
pub mod Back
pub mod Workers
