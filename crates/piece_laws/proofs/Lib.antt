pub mod PickSlots
pub mod Sound
pub mod Walks
pub mod Complete
pub mod SlotLemmas
pub mod Predecessors
pub mod TestLemmas
pub mod LabelLemmas
