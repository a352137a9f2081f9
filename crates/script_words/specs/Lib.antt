pub mod Words
pub mod Number
pub mod Field
pub mod Keyword
pub mod Stage
