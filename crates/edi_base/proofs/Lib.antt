pub mod Going
pub mod Lowest
pub mod Numbers
pub mod Taken
pub mod Twice
