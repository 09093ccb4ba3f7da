pub mod Sorting
pub mod Sofar
