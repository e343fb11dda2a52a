pub mod PropagationLemmas
