-- The blocks of a memory, as a finite map.
use Rattle.std.proofs.Common.{◌≡◌, ℕ, zero, suc, ◌+◌, ◌-◌, ◌<◌, ◌≤◌, true, false, Option, Some}
use Rattle.std.proofs.Common.{None, List, [], ◌∷◌, ◌++◌, length, drop, refl, ap, ◌∙◌, arith, inl}
use Rattle.std.proofs.Common.{inr, nat_cmp, get_or-drop, length-drop}
use Rattle.std.proofs.lemmas.{Bool.cases_Bool, List.drop-append-le, List.get_or_past}
use Rattle.std.specs.FinMap as maps
use Rattle.clause_memory.specs.{Blocks.cells_in, Code.Cells.start_of, declared.kind.Kind.Kind}
use Rattle.clause_memory.specs.Code.Cells.{IsBlock, blocks_from, blocks_in, is_rest, kind_at, rests}
use Rattle.clause_memory.specs.declared.kind.Kind.TheVariants.{Live, Free, Rest}
use Rattle.clause_memory.proofs.CellLemmas.{AreAlike, start_begins}
use Rattle.cnf_base.proofs.MapLemmas.{insert_here, insert_other, same_maps, sum_empty, sum_insert}

-- a cell of a kind that begins a block has so many cells
abbrev pub block_if : Kind → ℕ → Option ℕ
block_if Live n = Some n
block_if Free n = Some n
block_if Rest n = None

block_begins : (k : Kind) (n : ℕ) → is_rest k ≡ false → block_if k n ≡ Some n
block_begins k n h = grind arith

pub block_alike : (k l : Kind) (n : ℕ) → is_rest l ≡ is_rest k → block_if l n ≡ block_if k n
block_alike k l n same = grind arith

-- ---- Cells that go on

rests_is : (ks : List Kind) (m : ℕ) → m ≤ length ks → ((i : ℕ) → i < m → is_rest (kind_at ks i) ≡ true) → (m < length ks → is_rest (kind_at ks m) ≡ false) → rests ks ≡ m
rests_is [] m le on stop = omega arith
rests_is (k ∷ ks) zero le on stop = grind arith
rests_is (k ∷ ks) (suc m) le on stop =
    grind (arith, rests_is ks m (omega arith) (λ i low. on (suc i) (omega arith)) (λ low. stop (omega arith)), on 0)

pub rests_alike : (ks ls : List Kind) → length ls ≡ length ks → ((i : ℕ) → is_rest (kind_at ls i) ≡ is_rest (kind_at ks i)) → rests ls ≡ rests ks
rests_alike [] [] long same = refl
rests_alike [] (l ∷ ls) long same = absurd (omega arith)
rests_alike (k ∷ ks) [] long same = absurd (omega arith)
rests_alike (k ∷ ks) (l ∷ ls) long same =
    grind (arith, same 0, rests_alike ks ls (omega arith) (λ i. same (suc i)))

-- before a block that begins
pub rests_before : (ks ls : List Kind) → rests (ks ++ Free ∷ ls) ≡ rests ks
rests_before [] ls = refl
rests_before (k ∷ ks) ls = grind (arith, rests_before ks ls)

-- ---- Look-ups

below_block : (ks : List Kind) (n q : ℕ) → q < n → maps.get (blocks_from n ks) q ≡ None
below_block [] n q low = maps.get-empty nat_cmp q
below_block (k ∷ ks) n q low = grind (arith, insert_other, below_block ks (n + 1) q)

block_from : (ks : List Kind) (n k q : ℕ) → q ≡ n + k
    → maps.get (blocks_from n ks) q ≡ block_if (kind_at ks k) (rests (drop (suc k) ks) + 1)
block_from [] n k q e = maps.get-empty nat_cmp q
block_from (Rest ∷ ks) n zero q e = below_block ks (n + 1) q (omega arith)
block_from (Rest ∷ ks) n (suc k) q e = block_from ks (n + 1) k q (omega arith)
block_from (Live ∷ ks) n zero q e = grind (arith, insert_here)
block_from (Live ∷ ks) n (suc k) q e = grind (arith, insert_other, block_from ks (n + 1) k q)
block_from (Free ∷ ks) n zero q e = grind (arith, insert_here)
block_from (Free ∷ ks) n (suc k) q e = grind (arith, insert_other, block_from ks (n + 1) k q)

pub get_block : (ks : List Kind) (s : ℕ)
    → maps.get (blocks_in ks) s ≡ block_if (kind_at ks s) (rests (drop (suc s) ks) + 1)
unfolding blocks_in
get_block ks s = block_from ks 0 s s (omega arith)

-- behind all cells
pub block_past : (ks : List Kind) → maps.get (blocks_in ks) (length ks) ≡ None
block_past ks = grind (arith, get_block, get_or_past)

-- a block has the number of cells that is seen
pub block_is : {ks : List Kind} {s n : ℕ} → IsBlock ks s n → maps.get (blocks_in ks) s ≡ Some n
block_is {ks} {s} {n} is =
    let long = length-drop (suc s) ks in
    let one_less : n - 1 + 1 ≡ n = omega arith in
    cc (get_block ks s, block_begins (kind_at ks s) _ is.begins, rests_is (drop (suc s) ks) (n - 1) (omega arith) (λ i low. ap is_rest (get_or-drop (suc s) ks i Rest) ∙ goes_on (suc s + i) (omega arith) (omega arith)) (λ low. let at : suc s + (n - 1) ≡ s + n = omega arith in ap is_rest (get_or-drop (suc s) ks (n - 1) Rest) ∙ ap (λ u. is_rest (kind_at ks u)) at ∙ stops (omega arith)))
  where
    goes_on : (u : ℕ) → s < u → u < s + n → is_rest (kind_at ks u) ≡ true
    goes_on u more low = elim (cases_Bool (is_rest (kind_at ks u))) [
      | inl on ↦ on
      | inr off ↦ grind (arith, start_begins ks u off)
    ]

    last_start : (m : ℕ) → suc m ≡ s + n → 0 < n → start_of ks m ≡ s
    last_start m e some = is.own m (omega arith) (omega arith)

    next_start : (u : ℕ) → u ≡ s + n → 0 < n → is_rest (kind_at ks u) ≡ true → start_of ks u ≡ s
    next_start zero e some on = absurd (let wrong : ⊥ = omega arith in wrong)
    next_start (suc m) e some on = cc (last_start m e some)

    stops : s + n < length ks → is_rest (kind_at ks (s + n)) ≡ false
    stops inside = grind (arith, next_start)

-- kinds of which the same ones begin a block have the same blocks
pub blocks_same : {ks ls : List Kind} → AreAlike ks ls → blocks_in ls ≡ blocks_in ks
blocks_same {ks} {ls} alike =
    same_maps (blocks_in ls) (blocks_in ks) (λ s. let rest = rests_alike (drop (suc s) ks) (drop
    (suc s) ls) (simp (length-drop, alike.len)) (λ i. simp (get_or-drop, alike.rest)) in
    cc (get_block ls s, rest, block_alike (kind_at ks s) (kind_at ls s) _ (alike.rest s), get_block ks s))

-- a block before others
pub block_before : (ks ls : List Kind) (s : ℕ) → s < length ks
    → kind_at (ks ++ Free ∷ ls) s ≡ kind_at ks s
    → maps.get (blocks_in (ks ++ Free ∷ ls)) s ≡ maps.get (blocks_in ks) s
block_before ks ls s low same = grind (arith, get_block, drop-append-le, rests_before)

-- the cells of the blocks are all, but for those at the front that begin none
cells_from : (ks : List Kind) (n : ℕ) → cells_in (blocks_from n ks) + rests ks ≡ length ks
cells_from [] n = grind (arith, sum_empty)
cells_from (k ∷ ks) n = grind (arith, cells_from ks (n + 1), sum_insert, below_block)

pub cells_are : (ks : List Kind) → rests ks ≡ 0 → cells_in (blocks_in ks) ≡ length ks
unfolding blocks_in
cells_are ks front = let all = cells_from ks 0 in omega arith
