pub mod Over
pub mod Words
pub mod Pages
