pub mod Sizes
pub mod Commands
pub mod Params
pub mod Cores
pub mod Coming
