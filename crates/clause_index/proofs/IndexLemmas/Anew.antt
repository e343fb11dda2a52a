-- Slots that are put into chains one after the other.
use Rattle.clause_index.proofs.IndexLemmas.Chains.{home_below, linked_same, not_self}
use Rattle.clause_index.specs.Code.Chains.{AreChained, ArePlaced, IsHeld, below, home, link_at}
use Rattle.{clause_index.specs.declared.link.Link.Link, std.proofs.Common.{List, None, Option}}
use Rattle.std.proofs.Common.{Some, [], arith, eq-eqb, get_or, if◌then◌else◌, inl, inr, length}
use Rattle.std.proofs.Common.{ne_eqb, replicate, ℕ, ◌+◌, ◌<◌, ◌==◌, ◌∙◌, ◌≡◌, ◌≤◌}
use Rattle.std.proofs.lemmas.{Bool.cases_lt, List.{get_or-replicate, length-replicate}}

-- what is held told by another function with the same values
pub chained_same : (links : List Link) (heads : List ℕ) (held now : ℕ → Option ℕ)
    → ((s : ℕ) → held s ≡ now s) → AreChained links heads held → AreChained links heads now
chained_same links heads held now same old = grind arith

-- links that are as before for the slots that are held
pub chained_kept : (links after : List Link) (heads : List ℕ) (held : ℕ → Option ℕ) → AreChained links heads held
    → length links ≤ length after → ((s h : ℕ) → held s ≡ Some h → link_at after s ≡ link_at links s)
    → AreChained after heads held
chained_kept links after heads held old long same = grind (arith, linked_same)

-- nothing is held, and no chain has a slot
pub chained_none : (links : List Link) (len : ℕ) (held : ℕ → Option ℕ) → ((s : ℕ) → held s ≡ None)
    → AreChained links (replicate len 4294967295) held
chained_none links len held none = record {
  chain = λ b. [];
  linked = grind (arith, get_or-replicate, length-replicate);
  apart = grind arith;
  there = grind arith;
  back = grind arith;
  inside = grind arith;
  low = grind arith;
  some = grind arith;
  hashes = grind arith;
}

pub below_is : (held : ℕ → Option ℕ) (n k : ℕ) → k < n → below n held k ≡ held k
below_is held n k low = grind arith

pub above_is : (held : ℕ → Option ℕ) (n k : ℕ) → n ≤ k → below n held k ≡ None
above_is held n k high = grind arith

pub below_same : (held now : ℕ → Option ℕ) (n s : ℕ) → held s ≡ now s → below n held s ≡ below n now s
below_same held now n s same = grind arith

module _ (links : List Link) (heads : List ℕ) (placed : ℕ) (held : ℕ → Option ℕ) (old : ArePlaced links heads placed held) where
  -- whatever is held, in a chain or waiting
  pub each_held : (s h : ℕ) → held s ≡ Some h → IsHeld links heads s h
  each_held s h e = elim (cases_lt s placed) [
    | inl lt ↦
        let is = below_is held placed s lt ∙ e in
        let low = old.chained.low s h is in
        let some = old.chained.some s h is in
        record {
          inside = old.chained.inside s h is;
          low = low;
          some = some;
          other = not_self links (old.chained.chain (home (length heads) h)) (get_or heads (home (length heads) h) 0) (grind (arith, home_below)) (old.chained.apart _) s (old.chained.there s h is) (λ same. let wrong : ⊥ = omega arith in wrong);
          hash = old.chained.hashes s h is;
        }
    | inr le ↦ old.waiting s h le e
  ]

  -- with new heads all slots wait
  pub all_wait : (len : ℕ) → 0 < len → ArePlaced links (replicate len 4294967295) 0 held
  all_wait len some = grind (arith, chained_none, each_held)

  -- where none waits, all are in chains
  pub all_chained : length links ≤ placed → AreChained links heads held
  all_chained all = grind arith

  -- ---- One turn

  -- a slot that has itself as its next one isn't held
  pub passes : (placed < 4294967295 → (link_at links placed).next ≡ placed) → ArePlaced links heads (placed + 1) held
  passes itself = grind (arith, chained_same)

  -- any other is put into its chain
  module _ (key : ℕ) (key_is : key ≡ (link_at links placed).hash) (inside : placed < length links)
      (other : (link_at links placed).next ≡ placed → ⊥) (new : List Link) (firsts : List ℕ)
      (put : (f : ℕ → Option ℕ) → AreChained links heads f → f placed ≡ None → AreChained new firsts (λ s. if s == placed then Some key else f s))
      (others : (s : ℕ) → (s ≡ placed → ⊥) → link_at new s ≡ link_at links s)
      (as_many : length new ≡ length links) (as_long : length firsts ≡ length heads) where
    pub puts : ArePlaced new firsts (placed + 1) held
    puts = grind (arith, chained_same, eq-eqb, below_is, ne_eqb, above_is)
