-- A slot that is added.
use Rattle.std.proofs.Common.{◌≡◌, ◌≢◌, ℕ, ◌<◌, ◌≤◌, ◌==◌, List, length, if◌then◌else◌, Option}
use Rattle.std.proofs.Common.{Some, arith}
use Rattle.clause_index.specs.Code.Chains.{AreChained, ArePlaced, IsHeld, below, link_at}
use Rattle.clause_index.{specs.declared.link.Link.Link, proofs.IndexLemmas.Anew.chained_same}

module _ (links after : List Link) (heads firsts : List ℕ) (placed : ℕ) (held now : ℕ → Option ℕ) (old : ArePlaced links heads placed held)
    (slot key : ℕ) (here : now slot ≡ Some key) (rest : (s : ℕ) → s ≢ slot → now s ≡ held s)
    (as_many : length after ≡ length links) (as_long : length firsts ≡ length heads)
    (others : (s : ℕ) → s ≢ slot → link_at after s ≡ link_at links s) where
  -- into a chain
  pub comes_in : slot < placed → AreChained after firsts (λ s. if s == slot then Some key else below placed held s)
      → ArePlaced after firsts placed now
  comes_in lt chained = grind (arith, chained_same)

  -- among those that wait
  pub waits : placed ≤ slot → AreChained after firsts (below placed held) → IsHeld after firsts slot key
      → ArePlaced after firsts placed now
  waits le chained is = grind arith
