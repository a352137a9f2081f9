pub mod Found
pub mod Tables
pub mod Characters
pub mod Trimming
pub mod Padding
pub mod WholeTables
pub mod Spread
