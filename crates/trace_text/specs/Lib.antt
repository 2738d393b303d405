pub mod Text
pub mod Lawful
pub mod Place
pub mod Values
pub mod Told
pub mod Laws
