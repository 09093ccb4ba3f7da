pub mod Streams
pub mod Places
pub mod Layout
