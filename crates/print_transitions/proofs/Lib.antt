pub mod InnerScope
pub mod GuardsRead
pub mod HeadsRead
pub mod UpdatesRead
