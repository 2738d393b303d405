pub mod Phrase
pub mod Grammar
pub mod Sentence
pub mod Parsing
