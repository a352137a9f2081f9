pub mod Tried
pub mod Lists
pub mod Inside
pub mod Layout
pub mod Choice
