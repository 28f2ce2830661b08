pub mod Facts
pub mod FromFacts
pub mod Known
pub mod Totals
