pub mod Asked
pub mod Telling
pub mod Lawful
pub mod OneProtocol
pub mod OneAnswer
pub mod Accepted
