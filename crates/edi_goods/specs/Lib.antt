pub mod Despatch
pub mod Parties
pub mod Receipt
pub mod Referred
pub mod Sums
pub mod Units
