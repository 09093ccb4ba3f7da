pub mod Sources
pub mod Frame
pub mod Parts
