pub mod Normal
pub mod BodiesAreRead
