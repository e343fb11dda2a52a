-- Walks over a clause: what is so of the literals so far, through one more literal.
use Rattle.clause_index.{proofs.IndexLemmas.Hashes.{mixed_kept, mixed_more}, specs.Hashes.mix}
use Rattle.{clause_index.specs.Hashes.mixed_sum, cnf_base.proofs.SetLemmas.same_from}
use Rattle.cnf_base.proofs.SizeLemmas.{distinct_before, size_covered, size_push}
use Rattle.cnf_base.proofs.WalkLemmas.{has_more, has_push, has_take, take_is}
use Rattle.{cnf_base.specs.Literals.{Clause, Literal, has, size}, std.proofs.Common.{Bool, []}}
use Rattle.std.proofs.Common.{arith, eqb, false, get_or, length, length-append, not, take, take_all}
use Rattle.std.proofs.Common.{true, ℕ, ◌%◌, ◌&&◌, ◌++◌, ◌+◌, ◌<◌, ◌^◌, ◌||◌, ◌∷◌, ◌≡◌, ◌≤◌}

-- ---- One turn of a walk: x is the literal at i

module _ (c : Clause) (i : ℕ) (inside : i < length c) (x : Literal) (is : x ≡ get_or c i x) where
  pub size_more : has (take i c) x ≡ false → size (take (i + 1) c) ≡ 1 + size (take i c)
  size_more new = cc (take_is c i inside x is, size_push (take i c) x)

  pub size_kept : has (take i c) x ≡ true → size (take (i + 1) c) ≡ size (take i c)
  size_kept old = cc (take_is c i inside x is, size_push (take i c) x)

  pub new_here : size c ≡ length c → has (take i c) x ≡ false
  new_here different = distinct_before c i x different inside is

-- ---- Digests

-- how many different literals there are among the first i, and the sum of the mixed ones
pub record IsDigest (seed : ℕ) (c : Clause) (i len sum : ℕ) : Type 0 where
  pub len_is : len ≡ size (take i c)
  pub sum_is : sum ≡ mixed_sum seed (take i c)
  pub few : len ≤ i

module _ (seed : ℕ) (c : Clause) (i : ℕ) (inside : i < length c) (x : Literal) (is : x ≡ get_or c i x) (len sum : ℕ) (so_far : IsDigest seed c i len sum) where
  pub digest_more : has (take i c) x ≡ false
      → IsDigest seed c (i + 1) (len + 1) ((sum + mix seed x) % 2 ^ 64)
  digest_more new = grind (arith, size_more, mixed_more)

  pub digest_kept : has (take i c) x ≡ true → IsDigest seed c (i + 1) len sum
  digest_kept old = grind (arith, size_kept, mixed_kept)

-- ---- Tests

pub eqb_turn : (a b : ℕ) → eqb a b ≡ eqb b a
eqb_turn a b = grind arith

pub swap_or : (a b c d : Bool) → a ≡ c → b ≡ d → (a || b) ≡ (d || c)
swap_or a b c d e f = grind arith

pub marked_new : (m h : Bool) → (m && not h) ≡ true → h ≡ false
marked_new m h e = grind arith

pub marked_old : (m h : Bool) → m ≡ true → (m && not h) ≡ false → h ≡ true
marked_old m h i e = grind arith

-- ---- Marks, through one more literal

module _ (c : Clause) (i : ℕ) (inside : i < length c) (x : Literal) (is : x ≡ get_or c i x) where
  pub mark_more : (k : Literal) (before after : Bool) → after ≡ (eqb k x || before)
      → before ≡ has (take i c) k → after ≡ has (take (i + 1) c) k
  mark_more k before after step was = grind (arith, swap_or, eqb_turn, has_more)

  -- a literal that is yet to come is still marked
  pub gather_more : (k : Literal) (before after : Bool) → after ≡ (not (eqb k x) && before)
      → before ≡ (has c k && not (has (take i c) k))
      → after ≡ (has c k && not (has (take (i + 1) c) k))
  gather_more k before after step was = grind (arith, eqb_turn, has_more c i inside x is k)

  pub has_kept : has (take i c) x ≡ true → (k : Literal) → has (take (i + 1) c) k ≡ has (take i c) k
  has_kept old k = grind (arith, has_more c i inside x is k, eqb_turn)

  module _ (kept : Clause) (same : (k : Literal) → has kept k ≡ has (take i c) k) (new : has (take i c) x ≡ false) where
    pub push_same : (k : Literal) → has (kept ++ x ∷ []) k ≡ has (take (i + 1) c) k
    push_same k = grind (arith, has_push, has_more)

    pub push_size : size (kept ++ x ∷ []) ≡ 1 + size kept
    push_size = grind (arith, size_push)

    pub push_fits : 1 + size kept ≤ size c
    push_fits = grind (arith, push_size, has_take, push_same, size_covered)

    pub push_different : size kept ≡ length kept → size (kept ++ x ∷ []) ≡ length (kept ++ x ∷ [])
    push_different different = grind (arith, push_size, length-append)

pub ruleset gather_steps = (push_fits, take_all, same_from)
