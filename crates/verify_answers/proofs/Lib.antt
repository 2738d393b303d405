pub mod Rising
pub mod OneVerdict
