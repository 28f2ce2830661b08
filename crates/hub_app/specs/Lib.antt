pub use Rattle.hub_program.specs.Program
pub mod Options
pub mod Words
