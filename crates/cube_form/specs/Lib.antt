pub mod Simple
pub mod Name
pub mod Form
