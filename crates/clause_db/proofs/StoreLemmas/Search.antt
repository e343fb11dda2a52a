-- What a search in a bucket says of the clauses.
use Rattle.{clause_db.specs.Code.Matches.is_match, std.proofs.Common.{arith, length, true, ℕ, ◌≡◌}}
use Rattle.cnf_base.proofs.SetLemmas.{all_each, each_all, same_back, same_from, same_there}
use Rattle.{cnf_base.proofs.SizeLemmas.{all_covered, size_same}, std.proofs.Common.Bool}
use Rattle.cnf_base.specs.Literals.{Clause, Literal, has, same_clause, size}

module _ (lits : Clause) (passes : Literal → Bool) (marked : (l : Literal) → passes l ≡ has lits l) (len : ℕ) (len_is : len ≡ size lits) (c : Clause) (different : size c ≡ length c) where
  -- a match is the same clause
  pub match_same : is_match passes len c ≡ true → same_clause c lits ≡ true
  match_same h = grind (arith, all_each, same_from, all_covered)

  -- the same clause is a match
  pub same_match : same_clause c lits ≡ true → is_match passes len c ≡ true
  same_match same = grind (arith, same_there, size_same)

pub ruleset find_steps = (each_all, same_back, all_each, match_same)
