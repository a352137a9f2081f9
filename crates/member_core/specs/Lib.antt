pub mod Listed
pub mod ChainRun
pub mod Conversation
pub mod Steps
pub mod SmallGroup
pub mod SmallLaws
