-- What is so of the fields of a memory.
use Rattle.std.specs.Coded.{Coded, code_by, coded×, coded_ℕ, coded_list}
use Rattle.std.specs.FinMap as maps
use Rattle.std.specs.FinMap.{FinMap}
use Rattle.std.specs.Ordering.{nat_cmp}
use Rattle.std.specs.Prelude.{◌≡◌, ◌≢◌, ℕ, ◌*◌, ◌<◌, ◌≤◌, List, Option, IsSome, length, refl}
use Rattle.cnf_base.specs.Literals.{Clause}
use Rattle.clause_memory.specs.Blocks.{BlocksState, cells_for}
use Rattle.clause_memory.specs.Code.Free.{AreListed}
use Rattle.clause_memory.specs.Code.Cells.{IsBlock, blocks_in, clauses_in, kept_in, kind_at}
use Rattle.clause_memory.specs.Code.Cells.{literal_words, rests, size_at}
use Rattle.clause_memory.specs.declared.kind.Kind.{Kind}
use Rattle.clause_memory.specs.declared.kind.Kind.TheVariants.{Live}

-- a memory is kept as the tuple of its fields
abbrev pub blocks_code : Coded BlocksState
blocks_code =
    code_by (FinMap nat_cmp Clause × (FinMap nat_cmp ℕ × ℕ))
    (coded× (maps.code coded_ℕ (coded_list coded_ℕ))
    (coded× (maps.code coded_ℕ coded_ℕ) coded_ℕ))
    (λ s. (s.live, (s.blocks, s.stored)))
    (λ p. record { live = p.0; blocks = p.1.0; stored = p.1.1 }) (λ _. refl)

-- what a memory with these fields is seen as
abbrev pub seen_as : List Kind → List ℕ → BlocksState
seen_as kinds words = record {
  live = clauses_in kinds words;
  blocks = blocks_in kinds;
  stored = literal_words kinds words;
}

-- each clause has a block of its own, each other block is free and listed, and of what isn't a
-- clause's all is overwritten
pub record IsMemory (kinds : List Kind) (words : List ℕ) (heads : ℕ → Option ℕ) : Type 0 where
  pub whole : length words ≡ 4 * length kinds
  pub few : length kinds ≤ 4294967295
  pub front : rests kinds ≡ 0
  pub block : (s : ℕ) → kind_at kinds s ≡ Live → IsBlock kinds s (cells_for (size_at words s))
  pub known : (s : ℕ) → kind_at kinds s ≡ Live → IsSome (heads (cells_for (size_at words s)))
  pub free : AreListed kinds words heads
  pub clean : (u : ℕ) → u < length kinds → kind_at kinds u ≢ Live → kept_in kinds words u ≡ 0
