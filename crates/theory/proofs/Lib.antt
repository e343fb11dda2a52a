pub mod DratLemmas
pub mod LawLemmas
pub mod LratLemmas
pub mod PropagationLemmas
pub mod RenamingLemmas
