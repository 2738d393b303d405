pub mod Normal
pub mod ReadsBack
