pub mod Managers
pub mod Excsat
pub mod Stage
pub mod Parameter
pub mod Accsec
pub mod Rdbnam
pub mod Access
pub mod Accepted
