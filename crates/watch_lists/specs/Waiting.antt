-- Literals that wait to be propagated (our own profile).
use Rattle.std.specs.List.{list_any}
use Rattle.std.specs.Prelude.{ℕ, Bool, ◌==◌, length}
use Rattle.cnf_base.specs.Literals.{Literal}
use Rattle.watch_lists.specs.declared.waiting.Waiting.{Waiting}

-- whether a literal waits
abbrev pub waits : Waiting → Literal → Bool
waits waiting l = list_any (λ w. w.l == l) waiting.waiters.items

-- how many do
abbrev pub count_of : Waiting → ℕ
count_of waiting = length waiting.waiters.items
