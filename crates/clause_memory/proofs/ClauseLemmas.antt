-- The clauses of a memory, as a finite map.
use Rattle.clause_memory.proofs.{BlockLemmas.cells_are, CellLemmas.begins_inside}
use Rattle.clause_memory.specs.{Blocks.BlocksState, Code.Cells.{clause_at, clauses_from}}
use Rattle.clause_memory.specs.Code.Cells.{clauses_in, kind_at, literal_words, size_at, sum_from}
use Rattle.clause_memory.specs.{Code.Fields.{IsMemory, seen_as}, Memory.literals_in}
use Rattle.clause_memory.specs.declared.kind.Kind.{Kind, TheVariants.{Free, Live, Rest}}
use Rattle.cnf_base.proofs.MapLemmas.{get_insert, insert_here, insert_other, same_maps, sum_empty}
use Rattle.cnf_base.{proofs.MapLemmas.sum_insert, specs.{Literals.Clause, Maps.sum_over}}
use Rattle.std.proofs.Common.{List, None, Option, Some, [], arith, is_some, length, length-drop}
use Rattle.std.proofs.Common.{length-take, nat_cmp, suc, sym, true, zero, ℕ, ◌+◌, ◌<◌, ◌∷◌, ◌≡◌}
use Rattle.std.{proofs.Common.◌≤◌, specs.Cmp.nat_cmp_total}
use Rattle.std.specs.FinMap as maps

-- the clause of a cell of this kind, if it begins one's block
abbrev pub clause_if : Kind → Clause → Option Clause
clause_if Live c = Some c
clause_if Free c = None
clause_if Rest c = None

module _ (words : List ℕ) where
  below_from : (kinds : List Kind) (n q : ℕ) → q < n
      → maps.get (clauses_from words n kinds) q ≡ None
  below_from [] n q low = maps.get-empty nat_cmp q
  below_from (k ∷ rest) n q low = grind (arith, insert_other, below_from rest (n + 1) q)

  at_from : (kinds : List Kind) (n k q : ℕ) → q ≡ n + k
      → maps.get (clauses_from words n kinds) q ≡ clause_if (kind_at kinds k) (clause_at words q)
  at_from [] n k q e = maps.get-empty nat_cmp q
  at_from (kind ∷ rest) n zero q e = grind (arith, insert_here, below_from)
  at_from (kind ∷ rest) n (suc k) q e = grind (arith, insert_other, at_from rest (n + 1) k q)

  few_from : (kinds : List Kind) (n : ℕ) → maps.len (clauses_from words n kinds) ≤ length kinds
  few_from [] n = grind (arith, maps.len-empty nat_cmp Clause)
  few_from (k ∷ rest) n =
      grind (arith, few_from rest (n + 1), maps.len-insert nat_cmp_total (clauses_from words (n + 1) rest) n (clause_at words n))

  -- one cell more
  kept_more : (f : ℕ → ℕ) (k : Kind) (rest : List Kind) (n : ℕ)
      → sum_from f (n + 1) rest ≡ sum_over length (clauses_from words (n + 1) rest)
      → (k ≡ Live → f n ≡ length (clause_at words n)) → ((k ≡ Live → ⊥) → f n ≡ 0)
      → sum_from f n (k ∷ rest) ≡ sum_over length (clauses_from words n (k ∷ rest))
  kept_more f k rest n later is differs = grind (arith, sum_insert, below_from)

  -- the words that are kept are those of the clauses
  kept_from : (f : ℕ → ℕ) (kinds : List Kind) (n : ℕ)
      → ((k : ℕ) → k < length kinds → kind_at kinds k ≡ Live
      → f (n + k) ≡ length (clause_at words (n + k)))
      → ((k : ℕ) → k < length kinds → (kind_at kinds k ≡ Live → ⊥) → f (n + k) ≡ 0)
      → sum_from f n kinds ≡ sum_over length (clauses_from words n kinds)
  kept_from f [] n live others = sym (sum_empty length)
  kept_from f (k ∷ rest) n live others =
      let here : n + 0 ≡ n = omega arith in
      kept_more f k rest n (kept_from f rest (n + 1) (λ i low is. grind (arith, live (suc i))) (λ i low is. grind (arith, others (suc i)))) (grind arith) (grind arith)

module _ (kinds : List Kind) (words : List ℕ) where
  pub get_clause : (s : ℕ) → maps.get (clauses_in kinds words) s
      ≡ clause_if (kind_at kinds s) (clause_at words s)
  unfolding clauses_in
  get_clause s = at_from words kinds 0 s s (omega arith)

  pub get_live : (s : ℕ) → kind_at kinds s ≡ Live
      → maps.get (clauses_in kinds words) s ≡ Some (clause_at words s)
  get_live s is = cc (get_clause s)

  pub alive_kind : (s : ℕ) → is_some (maps.get (clauses_in kinds words) s) ≡ true
      → kind_at kinds s ≡ Live
  alive_kind s alive = grind (arith, get_clause)

  pub few_clauses : maps.len (clauses_in kinds words) ≤ length kinds
  unfolding clauses_in
  few_clauses = few_from words kinds 0

-- a slot of a live clause
pub alive_in : (kinds : List Kind) (words : List ℕ) (state : BlocksState)
    → seen_as kinds words ≡ state → (s : ℕ) → is_some (maps.get state.live s) ≡ true
    → kind_at kinds s ≡ Live
alive_in kinds words state view s alive = grind (arith, alive_kind)

-- maps of memories that agree but in one slot
pub clauses_with : (ks ls : List Kind) (words now : List ℕ) (s : ℕ) → kind_at ls s ≡ Live
    → ((t : ℕ) → (t ≡ s → ⊥) → clause_if (kind_at ls t) (clause_at now t)
    ≡ clause_if (kind_at ks t) (clause_at words t))
    → clauses_in ls now ≡ maps.insert (clauses_in ks words) s (clause_at now s)
clauses_with ks ls words now s live others = grind (arith, same_maps, get_clause, get_insert)

-- ---- What is kept

module _ {kinds : List Kind} {words : List ℕ} {heads : ℕ → Option ℕ} (memory : IsMemory kinds words heads) where
  pub clause_len : (s : ℕ) → kind_at kinds s ≡ Live → length (clause_at words s) ≡ size_at words s
  clause_len s live = grind (arith, length-take, length-drop)

  pub stored_is : literal_words kinds words ≡ literals_in (clauses_in kinds words)
  unfolding clauses_in literal_words
  stored_is = grind (arith, kept_from, clause_len)

  -- what is seen in a slot
  pub seen_in : (state : BlocksState) → seen_as kinds words ≡ state → (s : ℕ) (c : Clause)
      → maps.get state.live s ≡ Some c → (kind_at kinds s ≡ Live) × (c ≡ clause_at words s)
      × (length c ≡ size_at words s)
  seen_in state view s c here = grind (arith, get_clause kinds words s, clause_len)

pub ruleset seen_facts = (alive_in, alive_kind, few_clauses, stored_is, begins_inside, cells_are)
