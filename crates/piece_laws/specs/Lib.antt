pub mod Leads
pub mod Event
pub mod Test
