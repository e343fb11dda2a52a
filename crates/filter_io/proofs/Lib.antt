pub mod OpenLemmas
pub mod RunLemmas
