pub mod Register
pub mod Statement
pub mod Reading
