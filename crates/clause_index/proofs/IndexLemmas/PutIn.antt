-- A slot that comes to the front of its chain.
use Rattle.std.proofs.Common.{◌≡◌, ◌≢◌, ℕ, ◌<◌, ◌==◌, true, cond, eqb, List, ◌∷◌, length, Option}
use Rattle.std.proofs.Common.{Some, None, if◌then◌else◌, slice_index_or, sym, subst, arith, ◌⊎◌}
use Rattle.cnf_base.specs.Literals.{has, size}
use Rattle.clause_index.specs.Code.Chains.{AreChained, AreLinked, home, link_at}
use Rattle.clause_index.{specs.declared.link.Link.Link, proofs.IndexLemmas.Chains.linked_same}

module _ (links after : List Link) (heads firsts : List ℕ) (held : ℕ → Option ℕ) (old : AreChained links heads held)
    (slot hash : ℕ) (free : held slot ≡ None) (some : 0 < length heads) (inside : slot < length links) (low : slot < 4294967295)
    (as_many : length after ≡ length links) (as_long : length firsts ≡ length heads)
    (own : (link_at after slot).hash ≡ hash)
    (next : (link_at after slot).next ≡ slice_index_or heads (home (length heads) hash) 0)
    (others : (s : ℕ) → s ≢ slot → link_at after s ≡ link_at links s)
    (first : slice_index_or firsts (home (length heads) hash) 0 ≡ slot)
    (rest : (b : ℕ) → b ≢ home (length heads) hash → slice_index_or firsts b 0 ≡ slice_index_or heads b 0) where
  abbrev pub here : ℕ
  here = home (length heads) hash

  abbrev pub chain : ℕ → List ℕ
  chain b = cond (eqb b here) (slot ∷ old.chain b) (old.chain b)

  abbrev pub now : ℕ → Option ℕ
  now s = if s == slot then Some hash else held s

  -- ---- What is held now

  -- a slot that is held now is the new one, or was held
  now_cases : (s h : ℕ) → now s ≡ Some h → ((s ≡ slot) × (h ≡ hash)) ⊎ ((s ≢ slot) × (held s ≡ Some h))
  now_cases s h e = grind arith

  -- ---- The chains now

  linked_now : (b : ℕ) → b < length heads → AreLinked after (slice_index_or firsts b 0) (chain b)
  linked_now b low_b = grind (arith, linked_same)

  apart_now : (b : ℕ) → size (chain b) ≡ length (chain b)
  apart_now b = grind arith

  there_now : (s h : ℕ) → now s ≡ Some h → has (chain (home (length heads) h)) s ≡ true
  there_now s h e = grind arith

  back_now : (b s : ℕ) → has (chain b) s ≡ true → (h : ℕ) × (now s ≡ Some h) × (home (length heads) h ≡ b)
  back_now b s h = grind arith

  pub put_chained : AreChained after firsts now
  put_chained = record {
    chain = chain;
    linked = λ b low_b. linked_now b (subst (λ n. b < n) as_long low_b);
    apart = apart_now;
    there = grind (arith, there_now);
    back = grind (arith, back_now);
    inside = grind (arith, now_cases);
    low = grind (arith, now_cases);
    some = λ s h e. subst (λ n. 0 < n) (sym as_long) some;
    hashes = grind (arith, now_cases);
  }
