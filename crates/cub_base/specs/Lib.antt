pub mod Name
pub mod Numbered
pub mod formers
