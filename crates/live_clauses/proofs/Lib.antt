pub mod ClausesLemmas
