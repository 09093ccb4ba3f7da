pub mod Finding
pub mod Groups
