pub mod KeepLemmas
pub mod LeadLemmas
pub mod ChosenLemmas
pub mod FirstLemmas
pub mod AnswerLemmas
pub mod ApplyLemmas
pub mod AdmitLemmas
pub mod NodeLemmas
