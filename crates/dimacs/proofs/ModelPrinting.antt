-- A model that was printed, as it is read.
use Rattle.{cnf_base.specs.Literals.{Literal, complement, has}, dimacs.specs.Claim.IsConsistent}
use Rattle.std.proofs.Common.{List, false, rules, true, ◌∷◌, ◌≡◌}

-- these literals are among those
abbrev pub AreAmong : List Literal → List Literal → Type 0
AreAmong ls whole = (l : Literal) → has ls l ≡ true → has whole l ≡ true

-- ---- Tokens

-- ---- Lines

module _ (whole : List Literal) (consistent : IsConsistent whole) where
  -- the first of these literals doesn't contradict others of the list
  pub no_complement : (acc ls : List Literal) (l : Literal) → AreAmong acc whole → AreAmong (l ∷ ls) whole
      → has acc (complement l) ≡ false
  no_complement acc ls l before after = search rules

  -- one more literal
  pub among_more : (acc ls : List Literal) (l : Literal) → AreAmong acc whole → AreAmong (l ∷ ls) whole
      → AreAmong (l ∷ acc) whole
  among_more acc ls l before after k h = search rules
