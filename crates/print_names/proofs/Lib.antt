pub mod Positions
pub mod Fresh
pub mod Standing
pub mod Rows
pub mod TypedLists
pub mod Declared
