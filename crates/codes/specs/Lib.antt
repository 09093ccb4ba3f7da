pub mod Codes
pub mod Carried
pub mod Commands
