pub mod Answers
pub mod Capture
pub mod Ending
pub mod Requests
pub mod Replies
pub mod Lines
pub mod Text
pub mod Trace
