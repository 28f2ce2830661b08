pub mod Fitting
pub mod Numbered
pub mod Mail
pub mod Length
