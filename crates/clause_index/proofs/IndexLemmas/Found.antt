-- What a search says of the clauses.
use Rattle.clause_index.{proofs.IndexLemmas.Anew.each_held, specs.Code.Chains.{Indexes, IsHeld}}
use Rattle.clause_index.specs.{Code.Chains.{hash_in, home, link_at}, Hashes.hash}
use Rattle.{clause_index.specs.declared.index.Index.Index, cnf_base.specs.Literals.{Clause, has}}
use Rattle.std.proofs.Common.{Bool, List, Some, ap, arith, false, length, nat_cmp, option_map, true}
use Rattle.std.{proofs.Common.{ℕ, ◌<◌, ◌∙◌, ◌≡◌, ◌≢◌}, specs.FinMap.FinMap}
use Rattle.std.specs.FinMap as maps

-- a clause in the slot with this hash isn't sought
abbrev pub IsNot : ℕ → FinMap nat_cmp Clause → ℕ → (ℕ → Bool) → ℕ → Type 0
IsNot seed live key is s =
    (c : Clause) → maps.get live s ≡ Some c → hash seed c ≡ key → is s ≡ false

module _ (index : Index) (live : FinMap nat_cmp Clause) (sound : Indexes index live) where
  -- the chain of a hash
  abbrev pub chain_of : ℕ → List ℕ
  chain_of key = sound.chained.chain (home (length index.heads.items) key)

  is_held : (s : ℕ) (c : Clause) → maps.get live s ≡ Some c
      → IsHeld index.links.items index.heads.items s (hash index.seed c)
  is_held s c is = each_held index.links.items index.heads.items index.placed (hash_in index.seed live) sound s _ (ap (option_map (hash index.seed)) is)

  pub some_heads : (s : ℕ) (c : Clause) → maps.get live s ≡ Some c → 0 < length index.heads.items
  some_heads s c is = (is_held s c is).some

  pub is_low : (s : ℕ) (c : Clause) → maps.get live s ≡ Some c → s < 4294967295
  is_low s c is = (is_held s c is).low

  pub is_inside : (s : ℕ) (c : Clause) → maps.get live s ≡ Some c → s < length index.links.items
  is_inside s c is = (is_held s c is).inside

  -- a clause whose slot doesn't wait stands in the chain of its hash
  pub in_chain : (key s : ℕ) (c : Clause) → s < index.placed → maps.get live s ≡ Some c → hash index.seed c ≡ key
      → has (chain_of key) s ≡ true
  in_chain key s c placed is alike = grind arith

  pub chain_inside : (key s : ℕ) → has (chain_of key) s ≡ true → s < length index.links.items
  chain_inside key s h = let w = sound.chained.back _ s h in sound.chained.inside s w.0 w.1

  pub chain_low : (key s : ℕ) → has (chain_of key) s ≡ true → s ≢ 4294967295
  chain_low key s h = grind arith

  -- another hash than that of the clause
  pub other_hash : (key s : ℕ) (is : ℕ → Bool) → (link_at index.links.items s).hash ≢ key
      → IsNot index.seed live key is s
  other_hash key s is ne c there alike = absurd (ne ((is_held s c there).hash ∙ alike))

pub ruleset inside_facts = (some_heads, is_inside, is_low)
