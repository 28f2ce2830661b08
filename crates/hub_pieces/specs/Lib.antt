pub mod AllRows
pub mod Pieces
pub mod Walk
