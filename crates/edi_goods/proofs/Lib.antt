mod Examples
pub mod Read
pub mod SumsSoFar
