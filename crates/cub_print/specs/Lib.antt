pub mod Mark
pub mod Terms
pub mod Printed
pub mod Tokens
