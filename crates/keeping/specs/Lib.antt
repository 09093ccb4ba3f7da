pub mod SavedWalk
