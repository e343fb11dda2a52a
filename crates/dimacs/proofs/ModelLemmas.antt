-- A set of literals, where none is there with its complement.
use Rattle.cnf_base.proofs.LiteralLemmas.{complement-complement, complement-other}
use Rattle.cnf_base.{proofs.SetLemmas.has_cases, specs.Literals.{Literal, complement, has}}
use Rattle.{dimacs.specs.Claim.IsConsistent, std.proofs.Common.{Bool, List, cond, eqb, false}}
use Rattle.std.proofs.{Common.{ne_eqb, rules, true, ℕ, ◌∷◌, ◌≡◌}, lemmas.Bool.{both_ways, or_from}}

-- the table has one more key
pub listed_more : (listed after : ℕ → Bool) (ls : List ℕ) (x : ℕ) → ((l : ℕ) → listed l ≡ has ls l)
    → ((l : ℕ) → after l ≡ cond (eqb l x) true (listed l)) → (l : ℕ) → after l ≡ has (x ∷ ls) l
listed_more listed after ls x was put l = search rules

-- one more literal, whose complement is not there
more : (ls : List Literal) (x : Literal) → IsConsistent ls → has ls (complement x) ≡ false → IsConsistent (x ∷ ls)
more ls x ok apart l h =
    search (rules, has_cases, or_from, ne_eqb, complement-other, both_ways, complement-complement)

pub IsConsistent-put : (ls new : List Literal) (x : Literal) → IsConsistent ls → has ls (complement x) ≡ false → ((k : Literal) → has new k ≡ has (x ∷ ls) k)
    → IsConsistent new
IsConsistent-put ls new x ok apart put l h = search (rules, more)
