pub mod Spelling
pub mod TokenLaws
