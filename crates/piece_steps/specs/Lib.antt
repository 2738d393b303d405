pub mod Steps
pub mod DraftFits
