pub mod Names
pub mod WeightWords
pub mod Lines
