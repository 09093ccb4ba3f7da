pub mod SavedWalkLaws
