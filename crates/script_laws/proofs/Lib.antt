pub mod Cutting
pub mod Digits
pub mod Leading
pub mod Lines
pub mod Apps
pub mod Rows
pub mod Sizes
pub mod Made
