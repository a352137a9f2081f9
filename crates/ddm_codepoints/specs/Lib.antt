pub mod CodePoint
pub mod CodeClass
pub mod Value
pub mod Character
pub mod TypDef
