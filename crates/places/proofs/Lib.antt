pub mod StreamLaws
pub mod LayoutLaws
pub mod CountLaws
