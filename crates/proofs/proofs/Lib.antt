pub mod TextLemmas
pub mod BinaryLemmas
pub mod GrammarText
pub mod DratGrammar
pub mod LratGrammar
pub mod BinaryGrammar
pub mod WholeLemmas
