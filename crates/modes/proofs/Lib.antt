pub mod ModeLaws
pub mod OwnerLaws
