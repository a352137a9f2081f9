pub mod Draw
pub mod Lines
pub mod Made
pub mod Asked
