-- Lists that begin with another, as a trail does after more literals were set.
use Rattle.cnf_base.{proofs.SetLemmas.{has_append_cases, has_append_left}, specs.Literals.has}
use Rattle.std.proofs.Common.{List, [], ap, arith, drop, length, take, true, ℕ, ◌++◌, ◌∙◌, ◌∷◌, ◌≡◌}
use Rattle.std.proofs.{Common.◌≤◌, lemmas.List.{take-append-drop, take-append-le}}

pub begins_push : (first ls : List ℕ) (m : ℕ) → take (length first) ls ≡ first
    → length first ≤ length ls → take (length first) (ls ++ m ∷ []) ≡ first
begins_push first ls m begins longer = grind (arith, take-append-le)

pub has_begun : (first ls : List ℕ) (l : ℕ) → take (length first) ls ≡ first → has first l ≡ true
    → has ls l ≡ true
has_begun first ls l begins h =
    cc (take-append-drop (length first) ls, has_append_left (take (length first) ls) (drop (length first) ls) l (ap (λ xs. has xs l) begins ∙ h))

pub pushed_each : (P : ℕ → Type 0) (ls : List ℕ) (m : ℕ) → ((l : ℕ) → has ls l ≡ true → P l) → P m
    → (l : ℕ) → has (ls ++ m ∷ []) l ≡ true → P l
pushed_each P ls m each here l h = grind (arith, has_append_cases)
