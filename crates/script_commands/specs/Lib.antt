pub mod Objects
pub mod Commands
pub mod Start
