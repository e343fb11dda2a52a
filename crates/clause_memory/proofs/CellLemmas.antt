-- Cells, blocks and words.
use Rattle.clause_memory.specs.Code.Cells.{IsBlock, blanks, clause_at, is_rest, kept_in, kind_at}
use Rattle.clause_memory.specs.{Code.Cells.{size_at, start_of, written}, declared.kind.Kind.Kind}
use Rattle.{clause_memory.specs.declared.kind.Kind.TheVariants.Free, std.proofs.Common.{List, ap}}
use Rattle.std.proofs.Common.{arith, drop, ext_get_or, false, get_or, get_or-drop, get_or-take}
use Rattle.std.proofs.Common.{length, length-append, length-drop, length-take, refl, rules, suc}
use Rattle.std.proofs.Common.{take, true, zero, ℕ, ◌*◌, ◌++◌, ◌+◌, ◌-◌, ◌<◌, ◌∙◌, ◌≡◌, ◌≢◌, ◌≤◌}
use Rattle.std.proofs.lemmas.{Grind.same_number_lists, List.{get_or-append_right, get_or-replicate}}
use Rattle.std.proofs.lemmas.List.{get_or_append_left, get_or_past, length-replicate}

-- ---- Kinds

pub free_begins : (k : Kind) → k ≡ Free → is_rest k ≡ false
free_begins k e = ap is_rest e

-- a cell that begins a block is inside
pub begins_inside : (kinds : List Kind) (s : ℕ) → is_rest (kind_at kinds s) ≡ false
    → s < length kinds
begins_inside kinds s begins = grind (arith, get_or_past)

-- ---- Where a block begins

pub start_le : (kinds : List Kind) (u : ℕ) → start_of kinds u ≤ u
start_le kinds zero = omega arith
start_le kinds (suc u) = grind (arith, start_le kinds u)

pub start_begins : (kinds : List Kind) (u : ℕ) → is_rest (kind_at kinds u) ≡ false
    → start_of kinds u ≡ u
start_begins kinds u h = grind arith

-- it depends on the cells up to this one alone
pub start_alike : (ks ls : List Kind) (u : ℕ) → ((i : ℕ) → i ≤ u → is_rest (kind_at ls i) ≡ is_rest (kind_at ks i)) → start_of ls u ≡ start_of ks u
start_alike ks ls zero alike = refl
start_alike ks ls (suc u) alike = grind (arith, alike (suc u), start_alike ks ls u (grind arith))

-- the cells that go on with a block
pub start_run : (kinds : List Kind) (s k : ℕ) → is_rest (kind_at kinds s) ≡ false
    → ((i : ℕ) → s < i → i ≤ s + k → is_rest (kind_at kinds i) ≡ true) → (u : ℕ) → u ≡ s + k
    → start_of kinds u ≡ s
start_run kinds s zero begins rests u e = grind (arith, start_begins)
start_run kinds s (suc k) begins rests zero e = absurd (omega arith)
start_run kinds s (suc k) begins rests (suc u) e =
    grind (arith, rests, start_run kinds s k begins (grind arith) u)

-- ---- Blocks

-- kinds of which the same ones begin a block
pub record AreAlike (ks ls : List Kind) : Type 0 where
  pub len : length ls ≡ length ks
  pub rest : (u : ℕ) → is_rest (kind_at ls u) ≡ is_rest (kind_at ks u)

module _ {ks ls : List Kind} (alike : AreAlike ks ls) where
  pub start_same : (u : ℕ) → start_of ls u ≡ start_of ks u
  start_same u = start_alike ks ls u (λ i le. alike.rest i)

  pub block_same : {s n : ℕ} → IsBlock ks s n → IsBlock ls s n
  block_same {s} {n} is = grind arith

module _ {kinds : List Kind} {s n : ℕ} (is : IsBlock kinds s n) where
  pub block_inside : s < length kinds
  block_inside = begins_inside kinds s is.begins

-- ---- Words

-- a part of two lists that agree there
pub part_same : (xs ys : List ℕ) (a n : ℕ) → length ys ≡ length xs
    → ((i : ℕ) → i < n → get_or ys (a + i) 0 ≡ get_or xs (a + i) 0)
    → take n (drop a ys) ≡ take n (drop a xs)
part_same xs ys a n long same =
    search (rules, same_number_lists, length-take, length-drop, get_or-take, get_or-drop)

written_blanks : (n : ℕ) → written (blanks n) ≡ 0
written_blanks zero = refl
written_blanks (suc n) = written_blanks n

-- a part that is blank
pub part_blank : (xs : List ℕ) (a n : ℕ) → a + n ≤ length xs
    → ((i : ℕ) → i < n → get_or xs (a + i) 0 ≡ 2) → written (take n (drop a xs)) ≡ 0
part_blank xs a n fits blank =
    ap written (ext_get_or 0 (take n (drop a xs)) (blanks n) (grind (arith, length-take, length-drop, length-replicate)) (grind (arith, length-take, length-drop, get_or-take, get_or-drop, get_or-replicate))) ∙ written_blanks n

-- words of which a part was overwritten with blank ones
module _ (xs : List ℕ) (a k : ℕ) (fits : a + k ≤ length xs) where
  abbrev wiped : List ℕ
  wiped = take a xs ++ (blanks k ++ drop (a + k) xs)

  front_len : length (take a xs) ≡ a
  front_len = let len = length-take a xs in omega arith

  pub wiped_len : length wiped ≡ length xs
  wiped_len = grind (arith, front_len, length-append, length-drop, length-replicate)

  pub wiped_before : (i : ℕ) → i < a → get_or wiped i 0 ≡ get_or xs i 0
  wiped_before i low = grind (arith, get_or_append_left, front_len, get_or-take)

  pub wiped_inside : (i : ℕ) → a ≤ i → i < a + k → get_or wiped i 0 ≡ 2
  wiped_inside i high low =
      search (rules, get_or-append_right, front_len, get_or_append_left, get_or-replicate, length-replicate)

  pub wiped_behind : (i : ℕ) → a + k ≤ i → get_or wiped i 0 ≡ get_or xs i 0
  wiped_behind i high = grind (arith, get_or-append_right, front_len, get_or-drop, length-replicate)

-- ---- Words of one block that are written

-- kinds of which one block's may have changed, and words outside of it that haven't
pub record IsChanged (ks ls : List Kind) (words now : List ℕ) (s n : ℕ) : Type 0 where
  pub block : IsBlock ks s n
  pub alike : AreAlike ks ls
  pub others : (u : ℕ) → u ≢ s → kind_at ls u ≡ kind_at ks u
  pub same_len : length now ≡ length words
  pub before : (i : ℕ) → i < 4 * s → get_or now i 0 ≡ get_or words i 0
  pub behind : (i : ℕ) → 4 * (s + n) ≤ i → get_or now i 0 ≡ get_or words i 0

module _ {ks ls : List Kind} {words now : List ℕ} {s n : ℕ} (is : IsChanged ks ls words now s n) where
  -- a cell of another block
  pub cell_same : (u i : ℕ) → start_of ks u ≢ s → i < 4
      → get_or now (4 * u + i) 0 ≡ get_or words (4 * u + i) 0
  cell_same u i other low = grind arith

  -- another block
  pub word_same : {t m : ℕ} → IsBlock ks t m → (t ≡ s → ⊥) → (i : ℕ) → i < 4 * m
      → get_or now (4 * t + i) 0 ≡ get_or words (4 * t + i) 0
  word_same {t} {m} other ne i low = grind arith

  pub first_same : {t m : ℕ} → IsBlock ks t m → (t ≡ s → ⊥)
      → get_or now (4 * t) 0 ≡ get_or words (4 * t) 0
  first_same {t} {m} other ne = grind (arith, word_same other ne 0 (omega arith))

  pub size_same : {t m : ℕ} → IsBlock ks t m → (t ≡ s → ⊥) → size_at now t ≡ size_at words t
  size_same other ne = ap (λ w. w - 2) (first_same other ne)

  pub clause_same : {t m : ℕ} → IsBlock ks t m → (t ≡ s → ⊥) → size_at words t + 1 ≤ 4 * m → clause_at now t ≡ clause_at words t
  clause_same {t} {m} other ne fits =
      cc (size_same other ne, part_same words now (4 * t + 1) (size_at words t) is.same_len (grind (arith, word_same other ne)))

  pub kept_same : (u : ℕ) → start_of ks u ≢ s → kept_in ls now u ≡ kept_in ks words u
  kept_same u other =
      let whole : take 4 (drop (4 * u) now) ≡ take 4 (drop (4 * u) words) = search (rules, part_same, cell_same) in
      let half : take 2 (drop (4 * u + 2) now) ≡ take 2 (drop (4 * u + 2) words) = part_same words
      now (4 * u + 2) 2 is.same_len (grind arith) in
      grind (arith, start_same is.alike u, is.others u, start_begins)
