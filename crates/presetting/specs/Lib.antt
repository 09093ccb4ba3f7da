pub mod Presetting
