pub mod Phrases
pub mod TermPhrases
pub mod MarkPhrases
pub mod Whole
