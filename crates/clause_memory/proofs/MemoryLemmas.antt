-- A memory through a change: a block gets a clause, and loses it, and literals change places.
use Rattle.std.proofs.Common.{◌≡◌, ◌≢◌, ℕ, zero, suc, ◌+◌, ◌-◌, ◌*◌, ◌<◌, ◌≤◌, true, false, Option}
use Rattle.std.proofs.Common.{Some, None, is_some, List, [], ◌∷◌, length, take, drop, get_or, refl}
use Rattle.std.proofs.Common.{sym, ap, ◌∙◌, subst, arith, rules, set, swap, get_or-drop}
use Rattle.std.proofs.Common.{get_or-set_other, get_or-set_same, get_or-take}
use Rattle.std.proofs.lemmas.List.{drop-set-add, Edits.length-swap, Edits.swap_is}
use Rattle.std.specs.FinMap as maps
use Rattle.clause_memory.proofs.ClauseLemmas.{get_clause, clause_if, clause_len, clauses_with}
use Rattle.clause_memory.specs.{Blocks.cells_for, Code.Cells.written, declared.kind.Kind.Kind}
use Rattle.clause_memory.specs.Code.{Fields.IsMemory, Free.LeadsTo, Free.link_at, Free.link_of}
use Rattle.clause_memory.specs.Code.Cells.{IsBlock, blocks_in, clause_at, clauses_in, kept_as}
use Rattle.clause_memory.specs.Code.Cells.{literal_words, kept_in, is_rest, kind_at, rests, size_at, start_of}
use Rattle.clause_memory.specs.declared.kind.Kind.TheVariants.{Live, Free, Rest}
use Rattle.clause_memory.proofs.BlockLemmas.{blocks_same, rests_alike}
use Rattle.clause_memory.proofs.FreeLemmas.{HasHead, first_of, link_low, listed_still, listed_with}
use Rattle.clause_memory.proofs.{FreeLemmas.listed_without, RewatchLemmas.named_is}
use Rattle.clause_memory.proofs.CellLemmas.{IsChanged, begins_inside, block_same, clause_same}
use Rattle.clause_memory.proofs.CellLemmas.{free_begins, kept_same, part_blank, size_same}
use Rattle.clause_memory.proofs.CellLemmas.{start_begins, start_le, start_same}
use Rattle.cnf_base.proofs.MapLemmas.{same_maps, get_insert, get_remove, insert_twice, sum_empty}
use Rattle.cnf_base.{specs.Literals.Clause, specs.Literals.has, proofs.SetLemmas.has_tail}

-- ---- What a change leaves

module _ {ks ls : List Kind} {words now : List ℕ} {heads : ℕ → Option ℕ} {s n : ℕ} (memory : IsMemory ks words heads) (is : IsChanged ks ls words now s n) where
  whole_still : length now ≡ 4 * length ls
  whole_still = omega arith

  few_still : length ls ≤ 4294967295
  few_still = omega arith

  front_still : rests ls ≡ 0
  front_still = rests_alike ks ls is.alike.len is.alike.rest ∙ memory.front

  live_before : (t : ℕ) → (t ≡ s → ⊥) → kind_at ls t ≡ Live → kind_at ks t ≡ Live
  live_before t ne live = sym (is.others t ne) ∙ live

  size_still : (t : ℕ) → (t ≡ s → ⊥) → kind_at ls t ≡ Live → size_at now t ≡ size_at words t
  size_still t ne live = size_same is (memory.block t (live_before t ne live)) ne

  block_still : (t : ℕ) → (t ≡ s → ⊥) → kind_at ls t ≡ Live
      → IsBlock ls t (cells_for (size_at now t))
  block_still t ne live = grind (arith, size_still)

  known_still : (t : ℕ) → (t ≡ s → ⊥) → kind_at ls t ≡ Live
      → is_some (heads (cells_for (size_at now t))) ≡ true
  known_still t ne live = grind (arith, size_still)

  clause_still : (t : ℕ) → (t ≡ s → ⊥)
      → clause_if (kind_at ls t) (clause_at now t) ≡ clause_if (kind_at ks t) (clause_at words t)
  clause_still t ne =
      let same : kind_at ks t ≡ Live → clause_at now t ≡ clause_at words t = λ e. clause_same is
      (memory.block t e) ne (omega arith) in grind (arith, same, is.others t ne)

  -- a cell of another block keeps nothing, and a further one of this block is one that goes on
  clean_still : (u : ℕ) → u < length ls → kind_at ls u ≢ Live → (u ≡ s → ⊥)
      → (start_of ks u ≡ s → kind_at ls u ≡ Rest → kept_in ls now u ≡ 0) → kept_in ls now u ≡ 0
  clean_still u inside differs ne own = grind (arith, start_begins, kept_same is u, is.others u ne)

-- ---- A clause that is put in

pub record IsPutIn (ks : List Kind) (words now : List ℕ) (heads heads_now : ℕ → Option ℕ) (s : ℕ) (c : Clause) : Type 0 where
  pub memory : IsMemory ks words heads
  pub first : heads (cells_for (length c)) ≡ Some (s + 1)
  pub same_len : length now ≡ length words
  pub header : get_or now (4 * s) 0 ≡ length c + 2
  pub literals : take (length c) (drop (4 * s + 1) now) ≡ c
  pub before : (i : ℕ) → i < 4 * s → get_or now i 0 ≡ get_or words i 0
  pub behind : (i : ℕ) → 4 * s + 1 + length c ≤ i → get_or now i 0 ≡ get_or words i 0
  pub head : HasHead heads heads_now (cells_for (length c)) (link_at words s)

-- the first block of a list
module _ {ks : List Kind} {words : List ℕ} {heads : ℕ → Option ℕ} (memory : IsMemory ks words heads) (n s : ℕ) (first : heads n ≡ Some (s + 1)) where
  pub led : (rest : List ℕ) × (memory.free.list n ≡ s ∷ rest) × LeadsTo words (link_at words s) rest
  led = first_of words (link_of (heads n)) (memory.free.list n) (memory.free.leads n) s (ap link_of first)

  there : has (memory.free.list n) s ≡ true
  there = grind (arith, led)

  pub first_free : kind_at ks s ≡ Free
  first_free = memory.free.free n s there

  pub first_block : IsBlock ks s n
  first_block = memory.free.block n s there

  pub first_low : (s < 4294967295) × (4 * s + 4 * n ≤ length words)
  first_low = grind (arith, begins_inside, first_block)

  pub link_fits : link_at words s ≤ 4294967295
  link_fits =
      grind (arith, link_low words (link_at words s) (length ks) led.0 led.2 (λ t h. begins_inside ks t (free_begins (kind_at ks t) (memory.free.free n t (ap (λ xs. has xs t) led.1 ∙ has_tail s led.0 t h)))))

-- ---- A block whose first cell is of another kind now

module _ {ks : List Kind} {s n : ℕ} (kind : Kind) (block : IsBlock ks s n) where
  kind_now : kind_at (set ks s kind) s ≡ kind
  kind_now = get_or-set_same ks s kind Rest (begins_inside ks s block.begins)

  changed_kind : {words now : List ℕ} → is_rest kind ≡ false → length now ≡ length words
      → ((i : ℕ) → i < 4 * s → get_or now i 0 ≡ get_or words i 0)
      → ((i : ℕ) → 4 * (s + n) ≤ i → get_or now i 0 ≡ get_or words i 0)
      → IsChanged ks (set ks s kind) words now s n
  changed_kind begins same_len before behind = search rules

module _ {ks : List Kind} {words now : List ℕ} {heads heads_now : ℕ → Option ℕ} {s : ℕ} {c : Clause} (put : IsPutIn ks words now heads heads_now s c) where
  abbrev cells : ℕ
  cells = cells_for (length c)

  abbrev filled : List Kind
  filled = set ks s Live

  block : IsBlock ks s cells
  block = first_block put.memory cells s put.first

  live_now : kind_at filled s ≡ Live
  live_now = kind_now Live block

  changed : IsChanged ks filled words now s cells
  changed = changed_kind Live block refl put.same_len put.before (omega arith)

  pub put_in_memory : IsMemory filled now heads_now
  put_in_memory = let w = led put.memory cells s put.first in record {
    whole = whole_still put.memory changed;
    few = few_still put.memory changed;
    front = front_still put.memory changed;
    block = λ t live. grind (arith, block_still put.memory changed t, block_same changed.alike block);
    known = λ t live. grind (arith, known_still put.memory changed t);
    free = listed_without changed put.memory.free w.0 w.1 w.2 put.head live_now;
    clean = λ u inside differs. grind (arith, clean_still put.memory changed u inside differs, live_now, start_same changed.alike u);
  }

  pub put_in_blocks : blocks_in filled ≡ blocks_in ks
  put_in_blocks = blocks_same changed.alike

  pub was_none : maps.get (clauses_in ks words) s ≡ None
  was_none = grind (arith, get_clause, first_free put.memory cells s put.first)

  pub put_in_clauses : clauses_in filled now ≡ maps.insert (clauses_in ks words) s c
  put_in_clauses =
      grind (arith, clauses_with ks filled words now s live_now (clause_still put.memory changed))

-- ---- A clause that is taken out

pub record IsTakenOut (ks : List Kind) (words now : List ℕ) (heads heads_now : ℕ → Option ℕ) (s n : ℕ) : Type 0 where
  pub memory : IsMemory ks words heads
  pub live : kind_at ks s ≡ Live
  pub cells : n ≡ cells_for (size_at words s)
  pub same_len : length now ≡ length words
  pub link : link_at now s ≡ link_of (heads n)
  pub blank : (i : ℕ) → 4 * s + 2 ≤ i → i < 4 * (s + n) → get_or now i 0 ≡ 2
  pub before : (i : ℕ) → i < 4 * s → get_or now i 0 ≡ get_or words i 0
  pub behind : (i : ℕ) → 4 * (s + n) ≤ i → get_or now i 0 ≡ get_or words i 0
  pub head : HasHead heads heads_now n (s + 1)

module _ {ks : List Kind} {words now : List ℕ} {heads heads_now : ℕ → Option ℕ} {s n : ℕ} (out : IsTakenOut ks words now heads heads_now s n) where
  abbrev emptied : List Kind
  emptied = set ks s Free

  block_out : IsBlock ks s n
  block_out = grind arith

  free_now : kind_at emptied s ≡ Free
  free_now = kind_now Free block_out

  changed_out : IsChanged ks emptied words now s n
  changed_out = search rules

  inside_words : 4 * (s + n) ≤ length now
  inside_words = grind arith

  first_blank : kept_as Free Free now s ≡ 0
  first_blank =
      let inside = inside_words in part_blank now (4 * s + 2) 2 (omega arith) (omega arith)

  rest_blank : (u : ℕ) → u < length emptied → (u ≡ s → ⊥) → start_of ks u ≡ s
      → written (take 4 (drop (4 * u) now)) ≡ 0
  rest_blank u inside ne start =
      let low = start_le ks u in
      let high = block_out.alone u (subst (λ m. u < m) changed_out.alike.len inside) start in
      let words_in = inside_words in part_blank now (4 * u) 4 (omega arith) (omega arith)

  pub taken_out_memory : IsMemory emptied now heads_now
  taken_out_memory = record {
    whole = whole_still out.memory changed_out;
    few = few_still out.memory changed_out;
    front = front_still out.memory changed_out;
    block = λ t live. grind (arith, block_still out.memory changed_out t, free_now);
    known = λ t live. grind (arith, known_still out.memory changed_out t, free_now);
    free = grind (arith, listed_with, changed_out, free_now);
    clean = λ u inside differs. grind (arith, clean_still out.memory changed_out u inside differs, free_now, first_blank, rest_blank);
  }

  pub taken_out_blocks : blocks_in emptied ≡ blocks_in ks
  taken_out_blocks = blocks_same changed_out.alike

  pub taken_out_clauses : clauses_in emptied now ≡ maps.remove (clauses_in ks words) s
  taken_out_clauses =
      grind (arith, same_maps, get_clause, get_remove, free_now, clause_still out.memory changed_out)

-- ---- Literals that change places

take_set : (l : List ℕ) (n i v : ℕ) → take n (set l i v) ≡ set (take n l) i v
take_set [] zero i v = refl
take_set [] (suc n) i v = refl
take_set (x ∷ l) zero i v = refl
take_set (x ∷ l) (suc n) zero v = refl
take_set (x ∷ l) (suc n) (suc i) v = ap (λ t. x ∷ t) (take_set l n i v)

module _ {ks : List Kind} {words : List ℕ} {heads : ℕ → Option ℕ} (memory : IsMemory ks words heads) (s a b : ℕ) (live : kind_at ks s ≡ Live) (first : a < size_at words s) (second : b < size_at words s) where
  abbrev at_a : ℕ
  at_a = 4 * s + 1 + a

  abbrev at_b : ℕ
  at_b = 4 * s + 1 + b

  abbrev swapped : List ℕ
  swapped = swap words at_a at_b

  fits_in : 4 * s + 1 + size_at words s ≤ length words
  fits_in = grind arith

  pub swap_inside : (at_a < length words) × (at_b < length words)
  swap_inside = let fits = fits_in in (omega arith, omega arith)

  swapped_is : swapped ≡ set (set words at_a (get_or words at_b 0)) at_b (get_or words at_a 0)
  swapped_is = grind (arith, swap_is)

  changed_by_swap : IsChanged ks ks words swapped s (cells_for (size_at words s))
  changed_by_swap = grind (arith, length-swap, get_or-set_other)

  size_all : (t : ℕ) → kind_at ks t ≡ Live → size_at swapped t ≡ size_at words t
  size_all t alive = grind (arith, size_still memory changed_by_swap t, get_or-set_other)

  pub swapped_memory : IsMemory ks swapped heads
  swapped_memory = record {
    whole = whole_still memory changed_by_swap;
    few = memory.few;
    front = memory.front;
    block = grind (arith, size_all);
    known = grind (arith, size_all);
    free = listed_still changed_by_swap memory.free live live;
    clean = λ u inside differs. grind (arith, clean_still memory changed_by_swap u inside differs);
  }

  pub swapped_clause : clause_at swapped s ≡ swap (clause_at words s) a b
  swapped_clause =
      grind (arith, clause_len, get_or-drop, get_or-take, swapped_is, drop-set-add, take_set, swap_is (clause_at words s), get_or-set_other)

  pub swapped_clauses : clauses_in ks swapped
      ≡ maps.insert (clauses_in ks words) s (swap (clause_at words s) a b)
  swapped_clauses =
      grind (arith, same_maps, get_clause, get_insert, clause_still memory changed_by_swap, swapped_clause)

-- ---- Literals that change places, of which none is read

module _ {ks : List Kind} {words : List ℕ} {heads : ℕ → Option ℕ} (memory : IsMemory ks words heads) (s from to l other next : ℕ) (live : kind_at ks s ≡ Live) (low : from < 2) (past : 2 ≤ to) (inside : to < size_at words s)
    (is_l : get_or (clause_at words s) from 0 ≡ l) (is_other : get_or (clause_at words s) (1 - from) 0 ≡ other) (is_next : get_or (clause_at words s) to 0 ≡ next) where
  abbrev turned : List ℕ
  turned = swap words (4 * s + 1 + 0) (4 * s + 1 + (1 - from))

  abbrev rewritten : List ℕ
  rewritten = set (set (set words (4 * s + 1) other) (4 * s + 2) next) (4 * s + 1 + to) l

  pub rewrite_inside : 4 * s + 1 + to < length words
  rewrite_inside = grind arith

  rewritten_is : rewritten ≡ swap turned (4 * s + 1 + 1) (4 * s + 1 + to)
  rewritten_is =
      grind (arith, named_is words (4 * s + 1) from to l other next low past rewrite_inside, get_or-drop, get_or-take)

  turned_memory : IsMemory ks turned heads
  turned_memory = swapped_memory memory s 0 (1 - from) live (omega arith) (omega arith)

  same_size : size_at turned s ≡ size_at words s
  same_size = grind (arith, get_or-set_other)

  pub rewritten_memory : IsMemory ks rewritten heads
  rewritten_memory =
      rw rewritten_is (swapped_memory turned_memory s 1 to live (grind (arith, same_size)) (grind
      (arith, same_size)))

  pub rewritten_clauses : clauses_in ks rewritten ≡ maps.insert (clauses_in ks words) s (swap (swap (clause_at words s) 0 (1 - from)) 1 to)
  rewritten_clauses =
      search (rules, same_size, rewritten_is, swapped_clauses, turned_memory, insert_twice, swapped_clause)

-- ---- A memory of no block

pub empty_memory : (heads : ℕ → Option ℕ) → ((n : ℕ) → heads n ≡ None) → IsMemory [] [] heads
empty_memory heads none = record {
  whole = refl;
  front = refl;
  few = omega arith;
  block = grind arith;
  known = grind arith;
  free = record {
    list = λ n. [];
    leads = grind arith;
    once = λ n. tt;
    free = grind arith;
    block = grind arith;
    all = λ s free. absurd (grind arith);
  };
  clean = grind arith;
}

pub empty_maps : (clauses_in [] [] ≡ maps.empty) × (blocks_in [] ≡ maps.empty) × (literal_words [] [] ≡ 0)
unfolding clauses_in blocks_in literal_words
empty_maps = (refl, refl, refl)

pub ruleset new_facts = (empty_memory, empty_maps, sum_empty)
