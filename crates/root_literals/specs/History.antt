-- When the literals that are true with nothing assumed were propagated (our own profile).
use Rattle.std.specs.Prelude.{◌≡◌, ◌≢◌, ℕ, Bool, true, false, None, List, ◌<◌, ◌≤◌, ◌⊎◌, length}
use Rattle.std.specs.Prelude.{IsTrue, if◌then◌else◌, slice_index, take}
use Rattle.cnf_base.specs.Literals.{Literal, has}
use Rattle.theory.specs.Propagation.{Live}
use Rattle.root_literals.specs.Watched.{IsWatched}
use Rattle.root_literals.specs.declared.history.History.{History}

-- how many visits were made
abbrev pub visits : History → ℕ
visits history = length history.visited.items

-- how many literals were true when one of them began
abbrev pub trues_at : History → ℕ → ℕ
trues_at history visit = slice_index history.visited.items visit

-- each visit began with its literal true; where no fewer literals are kept than were true then, all
-- literals before its own are propagated among those
pub record IsHistory (live : Live) (history : History) (roots : List Literal) : Type 0 where
  pub inside : visits history ≤ length roots
  pub began : (d : ℕ) → d < visits history → d < trues_at history d
  pub before : (d p : ℕ) → d < visits history → trues_at history d ≤ p → history.floor < p →
      p ≤ length roots → IsWatched live (take d roots) (take p roots)

-- the clauses but those that are doubtful
abbrev pub sure_of : List ℕ → Live → Live
sure_of doubts live s = if has doubts s then None else live s

-- a clause that is doubtful was noted, or no cut is told of that takes a literal back, unless no
-- visit was made
pub record IsNoted (old now : History) (is_doubtful : Bool) (slot trues : ℕ) : Type 0 where
  pub others : (s : ℕ) → s ≢ slot → has now.doubts.items s ≡ has old.doubts.items s
  pub settled : is_doubtful ≡ true → visits old ≢ 0 →
      (IsTrue (has now.doubts.items slot) × (now.floor ≡ old.floor)) ⊎ (now.floor ≡ trues)
  pub floor : is_doubtful ≡ false → now.floor ≡ old.floor

-- only visits are left that were over with so many literals true at most, and none is left where
-- that isn't known
pub record IsRewound (old now : History) (place : ℕ) : Type 0 where
  pub front : now.visited.items ≡ take (visits now) old.visited.items
  pub floor : visits now ≢ 0 → (old.floor < place) × (now.floor ≡ old.floor)
  pub next : visits now ≢ 0 → (visits now < visits old) × (trues_at old (visits now) ≤ place)
  pub doubts : visits now ≢ 0 → now.doubts.items ≡ old.doubts.items

-- the same visits were made, and more literals are true
abbrev pub HasGrown : History → History → List Literal → List Literal → Type 0
HasGrown old now before after = (now ≡ old) × (take (length before) after ≡ before)
