pub mod Seams
pub mod TokenFacts
pub mod NameFacts
pub mod LawfulTerms
pub mod LawfulMarks
pub mod Fitting
