pub mod ChannelLaws
pub mod RowLaws
