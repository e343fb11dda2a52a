-- What a session is seen as, under either rule.
use Rattle.std.specs.FinMap as maps
use Rattle.std.specs.FinMap.{FinMap}
use Rattle.std.specs.Ordering.{nat_cmp}
use Rattle.std.specs.Prelude.{ℕ, ◌-◌, Bool, false}
use Rattle.cnf_base.specs.Literals.{Clause}
use Rattle.theory.specs.Rules.{Rule, lrat, drat, State, by_ids, by_copies}
use Rattle.steps.specs.ProofSession.{View}

-- the live clauses, and the rule by which steps on them are judged
pub record Held : Type 0 where
  pub rule : Rule
  -- each live clause: in LRAT at its identifier, in DRAT in its slot
  pub live : FinMap nat_cmp Clause
  -- in LRAT the greatest of the number of formula clauses and all identifiers added, in DRAT 0
  pub top : ℕ
  -- the sum of the lengths of all lists of literals that are kept
  pub stored : ℕ
  -- whether an accepted deletion lost a root-level literal
  pub has_lost_literal : Bool

-- what contracts see of a session
pub record SessionState : Type 0 where
  pub held : Held
  -- whether some step was accepted
  pub has_stepped : Bool
  -- whether an empty clause was input or accepted
  pub is_verified : Bool
  pub is_ended : Bool
  -- the greatest sum of the sizes of the live clauses, after each clause that was input and each
  -- accepted step, counted up to the greatest number of 64 bits
  pub peak : ℕ

-- no clause was input
abbrev pub fresh : Rule → SessionState
fresh rule = record {
  held = record {
    rule = rule;
    live = maps.empty;
    top = 0;
    stored = 0;
    has_lost_literal = false;
  };
  has_stepped = false;
  is_verified = false;
  is_ended = false;
  peak = 0;
}

-- the live clauses as a rule speaks of them
abbrev pub state_under : Rule → Held → State
state_under lrat held = by_ids (record { live = maps.get held.live; top = held.top })
state_under (drat rules) held = by_copies rules (maps.values held.live)

abbrev pub state_of : Held → State
state_of held = state_under held.rule held

-- what all sessions show; identifiers of the formula's clauses have 32 bits
abbrev pub view_of : SessionState → View
view_of s = record {
  state = state_of s.held;
  has_stepped = s.has_stepped;
  is_verified = s.is_verified;
  is_ended = s.is_ended;
  has_lost_literal = s.held.has_lost_literal;
  peak = s.peak;
  stored = s.held.stored;
  room = 4294967295 - s.held.top;
}
