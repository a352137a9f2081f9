pub mod Objects
pub mod Members
pub mod Builder
pub mod BuilderFields
pub mod Seen
