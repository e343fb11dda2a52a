pub mod CheckLemmas
pub mod FormulaLemmas
pub mod ModelLemmas
pub mod OutcomeLemmas
pub mod ReportLemmas
pub mod TheoremLemmas
