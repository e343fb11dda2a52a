-- Slots in chains, by their hashes. The words are our own.
use Rattle.std.specs.FinMap as maps
use Rattle.std.specs.FinMap.{FinMap}
use Rattle.std.specs.Ordering.{nat_cmp}
use Rattle.std.specs.Prelude.{◌≡◌, ◌≢◌, ℕ, ◌-◌, ◌<◌, ◌≤◌, List, [], ◌∷◌, length, slice_index_or}
use Rattle.std.specs.Prelude.{Option, Some, None, option_map, true, bit_and, if◌then◌else◌, nat_lt}
use Rattle.cnf_base.specs.Literals.{Clause, has, size}
use Rattle.clause_index.specs.Hashes.{hash}
use Rattle.clause_index.specs.declared.index.Index.{Index}
use Rattle.clause_index.specs.declared.link.Link.{Link}

-- the chain of a hash, among so many
unfoldable pub home : ℕ → ℕ → ℕ
home len h = bit_and h (len - 1)

-- the link of a slot
abbrev pub link_at : List Link → ℕ → Link
link_at links s = slice_index_or links s (record { hash = 0; next = 0 })

-- from this slot on, these are linked one after the other, and no others
abbrev pub AreLinked : List Link → ℕ → List ℕ → Type 0
AreLinked links first [] = first ≡ 4294967295
AreLinked links first (s ∷ rest) = (first ≡ s) × AreLinked links (link_at links s).next rest

-- the slots that are held, with these hashes, stand in the chains of their hashes, each once
pub record AreChained (links : List Link) (heads : List ℕ) (held : ℕ → Option ℕ) : Type 0 where
  pub chain : ℕ → List ℕ
  pub linked : (b : ℕ) → b < length heads → AreLinked links (slice_index_or heads b 0) (chain b)
  pub apart : (b : ℕ) → size (chain b) ≡ length (chain b)
  pub there : (s h : ℕ) → held s ≡ Some h → has (chain (home (length heads) h)) s ≡ true
  pub back : (b s : ℕ) → has (chain b) s ≡ true →
      (h : ℕ) × (held s ≡ Some h) × (home (length heads) h ≡ b)
  pub inside : (s h : ℕ) → held s ≡ Some h → s < length links
  pub low : (s h : ℕ) → held s ≡ Some h → s < 4294967295
  pub some : (s h : ℕ) → held s ≡ Some h → 0 < length heads
  pub hashes : (s h : ℕ) → held s ≡ Some h → (link_at links s).hash ≡ h

-- a slot that isn't held has itself as its next one
abbrev pub AreVacant : List Link → (ℕ → Option ℕ) → Type 0
AreVacant links held = (s : ℕ) → s < length links → held s ≡ None → (link_at links s).next ≡ s

-- the hash by this seed of the clause in a slot
abbrev pub hash_in : ℕ → FinMap nat_cmp Clause → ℕ → Option ℕ
hash_in seed live s = option_map (hash seed) (maps.get live s)

-- what is held below a slot
abbrev pub below : ℕ → (ℕ → Option ℕ) → ℕ → Option ℕ
below placed held s = if nat_lt s placed then held s else None

-- a slot that is held has a link with its hash, and doesn't have itself as its next one
pub record IsHeld (links : List Link) (heads : List ℕ) (slot h : ℕ) : Type 0 where
  pub inside : slot < length links
  pub low : slot < 4294967295
  pub some : 0 < length heads
  pub other : (link_at links slot).next ≢ slot
  pub hash : (link_at links slot).hash ≡ h

-- the slots below `placed` that are held stand in chains; the others that are held wait
pub record ArePlaced (links : List Link) (heads : List ℕ) (placed : ℕ) (held : ℕ → Option ℕ)
    : Type 0 where
  pub chained : AreChained links heads (below placed held)
  pub waiting : (s h : ℕ) → placed ≤ s → held s ≡ Some h → IsHeld links heads s h
  pub vacant : AreVacant links held

-- the index has these slots, with these hashes; each field has to be named here
abbrev pub IsIndexed : Index → (ℕ → Option ℕ) → Type 0
IsIndexed index held = ArePlaced index.links.items index.heads.items index.placed held

-- the index fits the clauses
abbrev pub Indexes : Index → FinMap nat_cmp Clause → Type 0
Indexes index live = IsIndexed index (hash_in index.seed live)
