pub mod Lender
pub mod Shares
