pub mod Signs
pub mod Parts
pub mod Step
