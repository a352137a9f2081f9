-- One DSS: its fields, its segments, its body.
pub mod Bytes
pub mod Format
pub mod Header
pub mod FirstSegment
pub mod Segments
pub mod Whole
pub mod Judging
