pub mod Sound
pub mod Keeping
pub mod Rows
pub mod Picking
pub mod Sets
pub mod Written
