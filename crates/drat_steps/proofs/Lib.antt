pub mod DratLemmas
