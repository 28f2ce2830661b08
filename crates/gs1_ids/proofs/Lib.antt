pub mod CheckDigits
pub mod Decided
pub mod FilledFields
pub mod FirstPairs
pub mod Neighbours
pub mod Overlaps
pub mod Prefixes
pub mod StoredPrefixes
