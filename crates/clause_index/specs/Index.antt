-- What an index is asked for.
use Rattle.std.specs.Prelude.{ℕ}
use Rattle.clause_index.specs.declared.index.Index.{Index}

-- what it hashes clauses by
abbrev pub seed_of : Index → ℕ
seed_of index = index.seed
