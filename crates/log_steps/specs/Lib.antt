pub mod Pieces
pub mod Readable
pub mod Chosen
pub mod Judged
pub mod Commits
pub mod Admitted
