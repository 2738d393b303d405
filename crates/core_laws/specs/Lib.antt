pub mod Following
pub mod Apart
