pub mod PresetLaws
