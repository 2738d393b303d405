pub mod Line
pub mod Number
pub mod Word
pub mod Named
pub mod Spelling
pub mod Loose
pub mod Reading
