-- The builder.
pub mod Fields
pub mod Headers
