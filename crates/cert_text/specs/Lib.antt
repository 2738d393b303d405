pub mod Cover
pub mod Laws
pub mod Lawful
pub mod Numbers
pub mod Place
pub mod Text
pub mod Told
