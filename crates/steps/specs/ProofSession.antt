-- A session of either rule, as its callers see it.
use Rattle.std.specs.Prelude.{◌≡◌, ℕ, Bool, true, ◌||◌}
use Rattle.theory.specs.Rules.{State}

-- what contracts see of a session, under either rule
pub record View : Type 0 where
  pub state : State
  -- whether some step was accepted
  pub has_stepped : Bool
  -- whether an empty clause was input or accepted
  pub is_verified : Bool
  pub is_ended : Bool
  -- whether an accepted deletion lost a root-level literal
  pub has_lost_literal : Bool
  -- the greatest sum of the sizes, after each clause that was input and each accepted step
  pub peak : ℕ
  -- the sum of the lengths of all lists of literals that it keeps
  pub stored : ℕ
  -- how many clauses may still be input
  pub room : ℕ

-- no further step is taken
abbrev pub is_over : View → Bool
is_over s = s.is_ended || s.is_verified

-- A refusal ends the session, and what it had come to stays.
pub record IsCutOff (old new : View) : Type 0 where
  pub ended : new.is_ended ≡ true
  pub verified : new.is_verified ≡ old.is_verified
  pub stepped : new.has_stepped ≡ old.has_stepped
  pub lost : new.has_lost_literal ≡ old.has_lost_literal
  pub peak : new.peak ≡ old.peak
