pub mod SidesRead
pub mod FormsRead
pub mod ScopeRead
pub mod BodiesRead
