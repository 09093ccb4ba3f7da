pub mod StateLaws
