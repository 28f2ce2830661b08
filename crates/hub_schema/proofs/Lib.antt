pub mod Beside
pub mod Compared
pub mod InKeyOrder
pub mod Leaving
pub mod Makes
pub mod Same
pub mod Single
pub mod Texts
