pub mod Owners
pub mod Modes
