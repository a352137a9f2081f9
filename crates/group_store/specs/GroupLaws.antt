-- The laws of groups, of the small group.
pub mod WrittenCodes
pub mod Cases
pub mod Replies
pub mod Members
pub mod Asking
pub mod Registers
pub mod SetTexts
pub mod Ends
pub mod Logs
pub mod Units
pub mod Same
pub mod UnitEnds
pub mod Access
pub mod SetsAlone
pub mod Standing
pub mod All
