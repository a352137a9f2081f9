-- Spellings, and what is read of them.
pub mod Canonical
pub mod Spelling
pub mod SpelledReads
pub mod ReadSpelled
pub mod WholeRead
pub mod BadFields
pub mod OneSpelling
