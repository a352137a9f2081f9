pub mod Name
pub mod RdbName
pub mod Text
pub mod Sqlcard
pub mod Reply
pub mod Closing
