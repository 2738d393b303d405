pub mod Refusal
pub mod Answers
pub mod Chosen
pub mod Waiting
pub mod Kept
pub mod Judgements
pub mod Admits
pub mod Given
