mod Bounds
mod Callers
mod Examples
mod Extents
mod Judging
mod PathExamples
mod Serving
mod Uploads
pub mod Among
pub mod Taking
