pub mod OctetLaws
pub mod PartLaws
pub mod TailLaws
pub mod WrittenLaws
