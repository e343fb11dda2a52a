-- Lists that hold a literal and its complement.
use Rattle.std.proofs.Common.{arith, ◌≡◌, true, false, List, [], ◌∷◌, ◌++◌, rules, true≢false}
use Rattle.cnf_base.specs.Literals.{Literal, complement, has}
use Rattle.cnf_base.proofs.SetLemmas.{any_from, any_some, any_none, has_append_cases}
use Rattle.cnf_base.proofs.LiteralLemmas.{complement-complement, complement-other}
use Rattle.theory.specs.Sets.{conflicts, SameSet}

-- where there is no conflict, a literal and its complement are not both there
pub not_both : (ls : List Literal) (l : Literal) → conflicts ls ≡ false → has ls l ≡ true
    → has ls (complement l) ≡ false
not_both ls l quiet h = any_none (λ l. has ls (complement l)) ls l quiet h

pub conflict_from : (ls : List Literal) (l : Literal) → has ls l ≡ true → has ls (complement l)
    ≡ true → conflicts ls ≡ true
conflict_from ls l h g = any_from (λ l. has ls (complement l)) ls l h g

pub conflicts_some : (ls : List Literal) → conflicts ls ≡ true → (l : Literal) × (has ls l ≡ true)
    × (has ls (complement l) ≡ true)
conflicts_some ls h = any_some (λ l. has ls (complement l)) ls h

-- a longer list has the conflicts of the shorter
pub conflicts_more : (first second : List Literal) → ((l : Literal) → has first l ≡ true → has second l ≡ true) → conflicts first ≡ true → conflicts second ≡ true
conflicts_more first second within h = search (rules, conflicts_some, conflict_from)

-- one more literal, whose complement is not there
pub quiet_push : (ls : List Literal) (l : Literal) → conflicts ls ≡ false → has ls (complement l)
    ≡ false → conflicts (ls ++ l ∷ []) ≡ false
quiet_push ls l quiet absent =
    let cases = has_append_cases ls (l ∷ []) in let some = conflicts_some (ls ++ l ∷ []) in
    grind (arith, not_both, complement-complement, complement-other)

pub conflicts_same : (first second : List Literal) → SameSet first second
    → conflicts first ≡ conflicts second
conflicts_same first second same = search (rules, conflicts_more, true≢false)
