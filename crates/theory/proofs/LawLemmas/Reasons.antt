-- Whether a clause is the reason of a root-level literal can be decided: what follows with nothing
-- assumed is a list, past a clash too.
use Rattle.cnf_base.proofs.SetLemmas.{all_each, any_from, any_none, any_some, each_all}
use Rattle.cnf_base.proofs.SetLemmas.{has_append_left, has_append_right, has_head, has_tail}
use Rattle.{cnf_base.specs.Literals.{Clause, Literal, complement, has}, std.specs.List.list_any}
use Rattle.std.proofs.Common.{Bool, List, Some, [], arith, cond, eq-eqb, eqb, eqb-true, false, inl}
use Rattle.std.proofs.Common.{inr, not, refl, rules, slice_get, suc, true, true≢false, zero, ℕ}
use Rattle.std.proofs.{Common.{◌&&◌, ◌++◌}, lemmas.{List.Sums.sum_by-cons, Option.none-some}}
use Rattle.std.proofs.{Common.{◌+◌, ◌<◌, ◌||◌, ◌∷◌, ◌≡◌, ◌≤◌, ◌⊎◌}, lemmas.Bool.{or_left, or_right}}
use Rattle.std.proofs.lemmas.Bool.{and_from, and_parts, cases_Bool, cases_eq, false≢true, or_cases}
use Rattle.{std.specs.List.list_all, theory.proofs.PropagationLemmas.Forced.forced_assumed}
use Rattle.theory.specs.Code.{Propagation.{IsClosedAt, OthersFail}, Sets.lacking}
use Rattle.theory.specs.Propagation.{Forced, IsClosed, IsRootReason, Live}

-- ---- How many literals are not found yet

module _ (first second : List Literal) (grows : (l : Literal) → has first l ≡ true
    → has second l ≡ true) where
  lacking-cons : (found : List Literal) (l : Literal) (ls : List Literal) → lacking found (l ∷ ls)
      ≡ cond (not (has found l)) 1 0 + lacking found ls
  lacking-cons found l ls = sum_by-cons (λ k. cond (not (has found k)) 1 0) l ls

  pub lacking_le : (ls : List Literal) → lacking second ls ≤ lacking first ls
  lacking_le [] = omega arith
  lacking_le (l ∷ ls) =
      let first_is = lacking-cons first l ls in let second_is = lacking-cons second l ls in
      let less = lacking_le ls in let there = grows l in grind arith

  pub lacking_falls : (m : Literal) → has first m ≡ false → has second m ≡ true
      → (ls : List Literal) → has ls m ≡ true → lacking second ls < lacking first ls
  lacking_falls m absent new [] h = absurd (false≢true h)
  lacking_falls m absent new (l ∷ ls) h =
      let first_is = lacking-cons first l ls in let second_is = lacking-cons second l ls in
      let less = lacking_le ls in let later = lacking_falls m absent new ls in
      let there = grows l in grind arith

-- ---- How far a list of literals can grow that follow from clauses

abbrev pub IsDecided : Type 0 → Type 0
IsDecided A = A ⊎ ¬ A

pub lacking_more : (found : List Literal) (m : Literal) → has found m ≡ false → (ls : List Literal)
    → has ls m ≡ true → lacking (m ∷ found) ls < lacking found ls
lacking_more found m new ls h = search (rules, lacking_falls, has_tail, has_head)

abbrev pub all_literals : List Clause → List Literal
all_literals [] = []
all_literals (c ∷ live) = c ++ all_literals live

pub has-all_literals : (live : List Clause) (k : ℕ) (c : Clause) (l : Literal)
    → slice_get live k ≡ Some c → has c l ≡ true → has (all_literals live) l ≡ true
has-all_literals (d ∷ live) (suc k) c l at h = has_append_right d (all_literals live)
    l (has-all_literals live k c l at h)
has-all_literals live k c l at h = search (rules, none-some, has_append_left)

-- ---- One clause

-- whether the complements of all other literals of the clause are in the list
abbrev others_fail : List Literal → Clause → Literal → Bool
others_fail found c m = list_all (λ l. eqb l m || has found (complement l)) c

fail_each : (found : List Literal) (c : Clause) (m : Literal) → others_fail found c m ≡ true
    → OthersFail (has found) c m
fail_each found c m all l member ne = search (rules, or_cases, all_each, eqb-true)

each_fail : (found : List Literal) (c : Clause) (m : Literal) → OthersFail (has found) c m
    → others_fail found c m ≡ true
each_fail found c m others = search (rules, each_all, cases_eq, or_left, eq-eqb, or_right)

-- ---- What follows

data Found (live : Live) (found : List Literal) : Type 0 where
  one_more : (k : ℕ) (c : Clause) → live k ≡ Some c → (m : Literal) → has c m ≡ true
      → OthersFail (has found) c m → has found m ≡ false → Found live found
  all_found : ((k : ℕ) (c : Clause) → live k ≡ Some c → IsClosedAt (has found) c) → Found live found

found_more : (found : List Literal) (d : Clause) (live : List Clause) → IsClosedAt (has found) d
    → Found (slice_get live) found → Found (slice_get (d ∷ live)) found
found_more found d live first (one_more k c at m member others new) = one_more (suc k) c at m member
    others new
found_more found d live first (all_found rest) = search rules

-- whether the clause gives a literal that is not found yet
abbrev gives : List Literal → Clause → Literal → Bool
gives found c m = not (has found m) && others_fail found c m

look : (found : List Literal) (live : List Clause) → Found (slice_get live) found
look found [] = all_found (λ k c at. absurd (none-some c at))
look found (d ∷ live) =
    let later = look found live in
    elim (cases_Bool (list_any (gives found d) d)) [
      | inl some ↦
          let w = any_some (gives found d) d some in
          one_more zero d refl w.0 w.1 (search (rules, fail_each)) (search rules)
      | inr none ↦ found_more found d live (grind (arith, any_none, each_fail)) later
    ]

-- a list of all that follows
pub record IsAll (live : Live) (assumed found : List Literal) : Type 0 where
  pub sound : (l : Literal) → has found l ≡ true → Forced live assumed l
  pub start : (a : Literal) → has assumed a ≡ true → has found a ≡ true
  pub closed : IsClosed live (λ l. has found l)

module _ (live : List Clause) (assumed : List Literal) where
  -- at most `fuel` literals are not found yet
  grow : (fuel : ℕ) (found : List Literal)
      → ((l : Literal) → has found l ≡ true → Forced (slice_get live) assumed l)
      → ((a : Literal) → has assumed a ≡ true → has found a ≡ true)
      → lacking found (all_literals live) ≤ fuel → Found (slice_get live) found
      → (all : List Literal) × IsAll (slice_get live) assumed all
  grow fuel found sound start bound (all_found closed) =
      (found, record { sound = sound; start = start; closed = record { unit = closed } })
  grow zero found sound start bound (one_more k c at m member others new) =
      let less = lacking_more found m new (all_literals live)
      (has-all_literals live k c m at member)
      in absurd (omega arith)
  grow (suc fuel) found sound start bound (one_more k c at m member others new) =
      let less = lacking_more found m new _ (has-all_literals live k c m at member) in
      grow fuel (m ∷ found) (search rules) (λ a h. has_tail m found a (start a h)) (omega arith)
      (look (m ∷ found) live)

  pub all_that_follows : (all : List Literal) × IsAll (slice_get live) assumed all
  all_that_follows = grow (lacking assumed (all_literals live)) assumed
      (forced_assumed (slice_get live) assumed) (λ a h. h) (omega arith) (look assumed live)

ruleset fail_steps =
    (and_parts, and_from, others_fail, fail_each, each_fail, false≢true, true≢false)

-- ---- Reasons

pub reason_decided : (live : List Clause) (c : Clause) → IsDecided (IsRootReason (slice_get live) c)
reason_decided live c =
    let w = all_that_follows live [] in
    let some = any_some (λ m. has w.0 m && others_fail w.0 c m) c in
    grind (arith, fail_steps, any_from)
