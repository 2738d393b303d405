pub mod Form
pub mod Groups
pub mod Meaning
pub mod Reading
pub mod Text
