-- The literals that a clause watches, and tautologies.
use Rattle.{clause_db.specs.Store.is_tautology, cnf_base.proofs.LiteralLemmas.complement-other}
use Rattle.cnf_base.{proofs.SetLemmas.{any_from, any_some}, specs.Literals.{Clause, Literal, has}}
use Rattle.std.proofs.Common.{[], arith, false, refl, rules, true, ◌∷◌, ◌≡◌}
use Rattle.std.proofs.lemmas.Bool.{false_from_ne_true, false≢true}
use Rattle.watch_lists.specs.Watched.{is_first, is_unit_or_empty, watches}

-- a clause that watches a literal has it among its first two, and is no tautology
pub watched_first : (c : Clause) (l : Literal) → watches c l ≡ true → is_first c l ≡ true
watched_first c l there = search rules

pub watched_apart : (c : Clause) (l : Literal) → watches c l ≡ true → is_tautology c ≡ false
watched_apart c l there = search rules

pub watches_first : (c : Clause) (l : Literal) → is_tautology c ≡ false → watches c l ≡ is_first c l
watches_first c l apart = search rules

-- ---- Tautologies

-- a clause in another order is one where it was
pub tautology_alike : (c d : Clause) → ((l : Literal) → has d l ≡ has c l) → is_tautology d ≡ is_tautology c
tautology_alike c d alike = search (rules, arith, any_some, any_from)

-- one literal has no complement beside it
pub units_apart : (c : Clause) → is_unit_or_empty c ≡ true → is_tautology c ≡ false
units_apart [] units = refl
units_apart (a ∷ []) units = grind (arith, false_from_ne_true, any_some, complement-other)
units_apart (a ∷ b ∷ c) units = absurd (false≢true units)
