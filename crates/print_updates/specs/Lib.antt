pub mod Normal
pub mod TransitionsAreRead
