pub mod Fault
pub mod Text
pub mod Piece
pub mod Lender
pub mod Stops
pub mod Feeder
pub mod Appending
