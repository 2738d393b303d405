pub mod WordLaws
pub mod NumberLaws
pub mod NameLaws
pub mod LooseLaws
pub mod LineLaws
pub mod ReadingLaws
pub mod OneLineLaws
