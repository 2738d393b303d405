pub mod PlaceLaws
pub mod CommentLaws
pub mod NumberLaws
pub mod Longest
pub mod OneReadingLaws
pub mod ReadingLaws
pub mod WordLaws
