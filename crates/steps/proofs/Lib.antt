pub mod LratLemmas
pub mod NamingLemmas
pub mod StateLemmas
