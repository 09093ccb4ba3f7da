pub mod Filled
pub mod Lanes
