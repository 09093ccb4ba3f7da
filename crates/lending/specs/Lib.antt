pub mod Filling
pub mod GoingOn
