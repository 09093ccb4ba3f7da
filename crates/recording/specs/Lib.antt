pub mod Refusals
pub mod Walk
pub mod Inner
