pub mod Normal
pub mod HeadsAreRead
