pub mod AccentLaws
