-- Streams, their places, what is written, and which fault is told.
pub mod Ended
pub mod Streams
pub mod Places
pub mod Written
pub mod Told
pub mod FaultIsTold
pub mod GoesOn
pub mod Held
