pub mod Size
pub mod Incoming
pub mod SeenReading
pub mod Seen
pub mod SeenAnswer
