-- Clauses that are the same set are equally large, and so are states with the same clauses.
use Rattle.{cnf_base.proofs.SetLemmas.{same_back, same_itself, same_there}, std.specs.List.list_any}
use Rattle.{cnf_base.proofs.SizeLemmas.size_same as by_sets, std.proofs.lemmas.Bool.false≢true}
use Rattle.{cnf_base.specs.Literals.{Clause, same_clause, size}, theory.specs.Lrat.SameAt}
use Rattle.std.proofs.Common.{List, Option, [], ap, arith, cond, refl, rules, sum_by, sym, true}
use Rattle.std.proofs.{Common.{◌+◌, ◌<◌, ◌∙◌, ◌∷◌, ◌≡◌}, lemmas.List.Sums.sum_by-cons}
use Rattle.theory.proofs.DratLemmas.Copies.{copies-cons, copies-take_off, copies_alive}
use Rattle.theory.{proofs.LratLemmas.Sums.sum_agree, specs.Drat.{SameLive, copies_of, take_off}}
use Rattle.theory.specs.{Laws.{EqualCopiesEqualSums, EqualSetsEqualTotals}, Sizes.size_at}

pub size_same : (c d : Clause) → same_clause c d ≡ true → size c ≡ size d
size_same c d same = by_sets c d (same_there c d same) (same_back c d same)

size_at_same : (a b : Option Clause) → SameAt a b → size_at a ≡ size_at b
size_at_same a b h = search (rules, size_same)

pub total_same : EqualSetsEqualTotals
total_same first second same top_is = search (rules, sum_agree, size_at_same)

-- ---- Lists with as many copies of each clause have the same sum of sizes

-- taking a clause off leaves less by its size
sum_take_off : (c : Clause) (live : List Clause) → list_any (same_clause c) live ≡ true
    → sum_by size live ≡ size c + sum_by size (take_off c live)
sum_take_off c [] h = absurd (false≢true h)
sum_take_off c (d ∷ live) h =
    let later = sum_take_off c live in let first = sum_by-cons size d live in
    let rest = sum_by-cons size d (take_off c live) in let alike = size_same c d in grind arith

copies_own : (c : Clause) (live : List Clause) → copies_of c (c ∷ live) ≡ 1 + copies_of c live
copies_own c live = copies-cons c c live ∙ ap (λ b. cond b 1 0 + copies_of c live) (same_itself c)

pub sums_same : EqualCopiesEqualSums
sums_same [] [] same = refl
sums_same [] (d ∷ second) same = search (rules, (copies_own d second))
sums_same (c ∷ first) second same =
    let own = copies_own c first in
    let alive : 0 < copies_of c second = omega arith in
    let rest : SameLive first (take_off c second) = record {
      copies = λ e. omega (arith, copies-cons e c first, same.copies e, copies-take_off e c second);
    } in
    sum_by-cons size c first ∙ ap (λ n. size c + n) (sums_same first (take_off c second) rest)
    ∙ sym (sum_take_off c second (copies_alive c second alive))
