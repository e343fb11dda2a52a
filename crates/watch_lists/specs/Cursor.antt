-- A watch list of which the clauses are visited (our own profile).
use Rattle.std.specs.Prelude.{ℕ, List}
use Rattle.watch_lists.specs.declared.watcher.Watcher.{Watcher}

-- its entries, and how many of them were visited and kept
pub record CursorState : Type 0 where
  pub entries : List Watcher
  pub visited : ℕ
