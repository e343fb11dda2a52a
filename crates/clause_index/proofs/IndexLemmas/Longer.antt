-- One more link, of a slot that nothing holds.
use Rattle.std.proofs.Common.{◌≡◌, ℕ, ◌+◌, ◌<◌, Option, List, length, arith}
use Rattle.clause_index.specs.{Code.Chains.ArePlaced, Code.Chains.link_at, declared.link.Link.Link}
use Rattle.clause_index.proofs.IndexLemmas.Anew.{chained_kept}

module _ (links more : List Link) (heads : List ℕ) (placed : ℕ) (held : ℕ → Option ℕ) (old : ArePlaced links heads placed held)
    (long : length more ≡ length links + 1) (same : (s : ℕ) → s < length links → link_at more s ≡ link_at links s)
    (last : (link_at more (length links)).next ≡ length links) where
  pub longer : ArePlaced more heads placed held
  longer = grind (arith, chained_kept)
