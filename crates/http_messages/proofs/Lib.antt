pub mod Chain
pub mod Filling
pub mod HeadExamples
pub mod Pieces
pub mod Reading
pub mod ResponseExamples
