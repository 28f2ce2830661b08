mod Examples
pub mod Parts
pub mod Fronts
pub mod Steps
pub mod Sound
pub mod Whole
pub mod Exact
pub mod SpelledAgain
pub mod Pieced
pub mod Lent
pub mod Lending
pub mod Settled
pub mod Segments
pub mod Spelled
pub mod Appended
pub mod Canonical
pub mod Kept
pub mod Stopping
