pub mod Working
pub mod Dialling
pub mod Putting
pub mod Sums
