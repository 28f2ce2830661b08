pub mod Differs
pub mod EmptyEnd
pub mod Runs
pub mod Pieces
pub mod Flat
pub mod Table
pub mod OpenText
