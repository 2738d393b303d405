pub mod Lexeme
pub mod Comment
pub mod Number
pub mod Reading
pub mod Spans
pub mod Place
pub mod NextStep
