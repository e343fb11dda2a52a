-- A memory that gets a further block.
use Rattle.clause_memory.proofs.BlockLemmas.{block_before, block_is, get_block, rests_before}
use Rattle.clause_memory.proofs.CellLemmas.{part_blank, start_alike, start_le, start_run}
use Rattle.clause_memory.proofs.{ClauseLemmas.{get_clause, get_live}, MemoryLemmas.was_none}
use Rattle.clause_memory.proofs.FreeLemmas.{HasHead, each_list, leads_same, none_of, with_list}
use Rattle.clause_memory.proofs.MemoryLemmas.{IsPutIn, put_in_blocks, put_in_clauses, put_in_memory}
use Rattle.clause_memory.specs.{Blocks.cells_for, Code.Cells.{kind_at, size_at, start_of}}
use Rattle.clause_memory.specs.Code.Cells.{IsBlock, blanks, blocks_in, clauses_in, is_rest, kept_in}
use Rattle.clause_memory.specs.Code.{Fields.IsMemory, Free.{AreListed, LeadsTo, link_at, link_of}}
use Rattle.clause_memory.specs.declared.kind.Kind.{Kind, TheVariants.{Free, Live, Rest}}
use Rattle.cnf_base.{proofs.MapLemmas.same_maps, specs.Literals.{Clause, has}}
use Rattle.std.proofs.Common.{List, None, Option, Some, [], ap, arith, cond, drop, eqb, false}
use Rattle.std.proofs.Common.{get_or, inl, inr, is_some, length, length-append, length-drop, refl}
use Rattle.std.proofs.Common.{replicate, rules, set, take, true, ℕ, ◌*◌, ◌++◌, ◌+◌, ◌-◌, ◌<◌, ◌∷◌}
use Rattle.std.proofs.{Common.{◌≡◌, ◌≢◌, ◌≤◌}, lemmas.{Grind.common_steps, List.take-append-le}}
use Rattle.std.proofs.Math.Seq.{drop-append-add, set-append_seam, take-append_seam}
use Rattle.std.proofs.lemmas.Bool.{cases_eq}
use Rattle.std.proofs.lemmas.List.{drop-append-le, get_or-append_right, get_or-replicate}
use Rattle.std.proofs.lemmas.List.{get_or_append_left, get_or_past, length-replicate}
use Rattle.std.specs.FinMap as maps

pub record IsMade (ks : List Kind) (words : List ℕ) (heads heads_now : ℕ → Option ℕ) (n more : ℕ) : Type 0 where
  pub memory : IsMemory ks words heads
  pub more_is : more + 1 ≡ n
  pub none : link_of (heads n) ≡ 0
  pub few : length ks + n ≤ 4294967295
  pub head : HasHead heads heads_now n (length ks + 1)

module _ {ks : List Kind} {words : List ℕ} {heads heads_now : ℕ → Option ℕ} {n more : ℕ} (made : IsMade ks words heads heads_now n more) where
  abbrev end : ℕ
  end = length ks

  abbrev longer : List Kind
  longer = ks ++ Free ∷ replicate more Rest

  abbrev wider : List ℕ
  wider = words ++ blanks (4 * n)

  longer_len : length longer ≡ end + n
  longer_len = grind (arith, length-append, length-replicate)

  wider_len : length wider ≡ length words + 4 * n
  wider_len = grind (arith, length-append, length-replicate)

  -- ---- Kinds

  old_kind : (u : ℕ) → u < end → kind_at longer u ≡ kind_at ks u
  old_kind u low = get_or_append_left ks (Free ∷ replicate more Rest) Rest u low

  new_kind : kind_at longer end ≡ Free
  new_kind = grind (arith, get_or-append_right)

  rest_kind : (u : ℕ) → end < u → kind_at longer u ≡ Rest
  rest_kind u high =
      search (rules, get_or-append_right, get_or-replicate, get_or_past, length-replicate)

  old_start : (u : ℕ) → u < end → start_of longer u ≡ start_of ks u
  old_start u low = grind (arith, start_alike, old_kind)

  new_start : (u : ℕ) → end ≤ u → start_of longer u ≡ end
  new_start u high = start_run longer end (u - end) (ap is_rest new_kind) (λ i more le. ap is_rest (rest_kind i more)) u (omega arith)

  begins_old : (t : ℕ) → is_rest (kind_at longer t) ≡ false → (t ≡ end → ⊥) → t < end
  begins_old t begins ne = grind (arith, common_steps)

  old_block : {t m : ℕ} → IsBlock ks t m → IsBlock longer t m
  old_block {t} {m} is = grind (arith, longer_len, old_kind, old_start, new_start)

  new_block : IsBlock longer end n
  new_block = grind (arith, longer_len, new_kind, new_start)

  -- ---- Words

  old_part : (a k : ℕ) → a + k ≤ 4 * end → take k (drop a wider) ≡ take k (drop a words)
  old_part a k low = grind (arith, length-drop, drop-append-le, take-append-le)

  old_size : (t : ℕ) → t < end → size_at wider t ≡ size_at words t
  old_size t low = grind (arith, get_or_append_left)

  old_live : (t : ℕ) → kind_at longer t ≡ Live → (t < end) × (kind_at ks t ≡ Live)
  old_live t live = grind (arith, begins_old, new_kind, old_kind)

  -- ---- What is kept

  old_kept : (u : ℕ) → u < end → kept_in longer wider u ≡ kept_in ks words u
  old_kept u low =
      let half = old_part (4 * u + 2) 2 (omega arith) in
      let all = old_part (4 * u) 4 (omega arith) in
      grind (arith, start_le, old_kind, old_start, old_size)

  new_kept : (u : ℕ) → end ≤ u → u < length longer → kept_in longer wider u ≡ 0
  new_kept u high inside =
      grind (arith, longer_len, wider_len, new_kind, part_blank wider (4 * u) 4, part_blank wider (4 * u + 2) 2, get_or-append_right, get_or-replicate)

  -- ---- The lists

  carried : (k : ℕ) → LeadsTo wider (link_of (heads k)) (made.memory.free.list k)
  carried k = grind (arith, leads_same, get_or_append_left)

  new_link : link_at wider end ≡ 0
  new_link = grind (arith, get_or-append_right, get_or-replicate)

  made_listed : AreListed longer wider heads_now
  made_listed = record {
    list = with_list made.memory.free.list n (end ∷ []);
    leads = grind (arith, new_link, carried);
    once = grind arith;
    free = grind (arith, new_kind, old_kind);
    block = λ k. each_list (λ k xs. (t : ℕ) → has xs t ≡ true → IsBlock longer t k)
        made.memory.free.list n (end ∷ []) (grind (arith, new_block)) (λ k ne t h. old_block
        (made.memory.free.block k t h)) k;
    all = λ t free. elim (cases_eq t end) [
      | inl e ↦ (n, grind arith)
      | inr ne ↦ grind (arith, begins_old t, old_kind t, made.memory.free.all t, none_of)
    ];
  }

  pub made_memory : IsMemory longer wider heads_now
  made_memory = record {
    whole = grind (arith, longer_len, wider_len);
    front = grind (arith, rests_before ks (replicate more Rest));
    few = grind (arith, longer_len);
    block = λ t live. let w = old_live t live in
        grind (arith, old_size t, old_block (made.memory.block t w.1));
    known = λ t live. grind (arith, old_live t, old_size t);
    free = made_listed;
    clean = grind (arith, old_kept, old_kind, new_kept);
  }

  pub made_clauses : clauses_in longer wider ≡ clauses_in ks words
  made_clauses =
      search (rules, old_kind, new_kind, rest_kind, same_maps, get_clause, old_size, old_part)

  -- ---- The blocks

  pub made_block : maps.get (blocks_in longer) end ≡ Some n
  made_block = block_is new_block

-- where no free block of so many cells is listed, each has a clause
pub none_free : {ks : List Kind} {words : List ℕ} {heads : ℕ → Option ℕ} → IsMemory ks words heads
    → (n : ℕ) → link_of (heads n) ≡ 0 → (s : ℕ) → maps.get (blocks_in ks) s ≡ Some n
    → is_some (maps.get (clauses_in ks words) s) ≡ true
none_free {ks} {words} {heads} memory n none s here = by_kind (kind_at ks s) refl
  where
    by_kind : (k : Kind) → kind_at ks s ≡ k → is_some (maps.get (clauses_in ks words) s) ≡ true
    by_kind Live is = grind (arith, get_live)
    by_kind Free is = let w = memory.free.all s is in
        grind (arith, none_of, block_is (memory.free.block w.0 s w.1))
    by_kind Rest is = grind (arith, get_block)

-- room was made for the link to a further list
pub memory_widened : {ks : List Kind} {words : List ℕ} {heads heads_now : ℕ → Option ℕ}
    → IsMemory ks words heads → ((n : ℕ) → link_of (heads_now n) ≡ link_of (heads n))
    → ((n : ℕ) → is_some (heads n) ≡ true → is_some (heads_now n) ≡ true)
    → IsMemory ks words heads_now
memory_widened memory same kept = grind arith

-- ---- A clause behind all others

-- A block that is made with its clause is one that was made free, and then got it.

pub record IsAppended (ks : List Kind) (words : List ℕ) (heads : ℕ → Option ℕ) (c : Clause) (more : ℕ) : Type 0 where
  pub memory : IsMemory ks words heads
  pub more_is : more + 1 ≡ cells_for (length c)
  pub none : heads (cells_for (length c)) ≡ Some 0
  pub few : length ks + cells_for (length c) ≤ 4294967295

module _ {ks : List Kind} {words : List ℕ} {heads : ℕ → Option ℕ} {c : Clause} {more : ℕ} (appended : IsAppended ks words heads c more) where
  abbrev cells : ℕ
  cells = cells_for (length c)

  -- the heads, were the block free
  abbrev with_free : ℕ → Option ℕ
  with_free k = cond (eqb k cells) (Some (length ks + 1)) (heads k)

  abbrev free_words : List ℕ
  free_words = words ++ blanks (4 * cells)

  abbrev clause_words : List ℕ
  clause_words = (length c + 2) ∷ (c ++ blanks (4 * cells - 1 - length c))

  abbrev pub now_kinds : List Kind
  now_kinds = ks ++ Live ∷ replicate more Rest

  abbrev pub now_words : List ℕ
  now_words = words ++ clause_words

  made_free : IsMade ks words heads with_free cells more
  made_free = grind arith

  clause_words_len : length clause_words ≡ 4 * cells
  clause_words_len = grind (arith, length-append, length-replicate)

  free_words_len : length (blanks (4 * cells)) ≡ 4 * cells
  free_words_len = length-replicate (4 * cells) 2

  first_word : get_or now_words (4 * length ks) 0 ≡ length c + 2
  first_word = grind (arith, get_or-append_right)

  literal_words_are : take (length c) (drop (4 * length ks + 1) now_words) ≡ c
  literal_words_are = grind (arith, drop-append-add, take-append_seam)

  before_same : (i : ℕ) → i < 4 * length ks → get_or now_words i 0 ≡ get_or free_words i 0
  before_same i low = grind (arith, get_or_append_left)

  behind_same : (i : ℕ) → 4 * length ks + 1 + length c ≤ i
      → get_or now_words i 0 ≡ get_or free_words i 0
  behind_same i high = grind (arith, get_or-append_right, get_or-replicate, get_or_past, clause_words_len, free_words_len)

  heads_back : (k : ℕ) → heads k
      ≡ cond (eqb k cells) (Some (link_at free_words (length ks))) (with_free k)
  heads_back k = grind (arith, new_link made_free)

  put_there : IsPutIn (ks ++ Free ∷ replicate more Rest) free_words now_words with_free heads
      (length ks) c
  put_there = record {
    memory = made_memory made_free;
    first = grind arith;
    same_len = grind (arith, clause_words_len, free_words_len, length-append);
    header = first_word;
    literals = literal_words_are;
    before = before_same;
    behind = behind_same;
    head = grind (arith, heads_back);
  }

  kinds_now : set (ks ++ Free ∷ replicate more Rest) (length ks) Live ≡ now_kinds
  kinds_now = set-append_seam ks Free (replicate more Rest) Live

  pub appended_memory : IsMemory now_kinds now_words heads
  appended_memory = rw (← kinds_now) (put_in_memory put_there)

  pub appended_free : maps.get (clauses_in ks words) (length ks) ≡ None
  appended_free = cc (made_clauses made_free, was_none put_there)

  pub appended_clauses : clauses_in now_kinds now_words
      ≡ maps.insert (clauses_in ks words) (length ks) c
  appended_clauses = simp (← kinds_now, put_in_clauses put_there, made_clauses made_free)

  appended_blocks : blocks_in now_kinds ≡ blocks_in (ks ++ Free ∷ replicate more Rest)
  appended_blocks = rw (← kinds_now) (put_in_blocks put_there)

  pub appended_block : maps.get (blocks_in now_kinds) (length ks) ≡ Some cells
  appended_block = grind (arith, appended_blocks, made_block, made_free)

  pub appended_other_blocks : (s : ℕ) → s ≢ length ks
      → maps.get (blocks_in now_kinds) s ≡ maps.get (blocks_in ks) s
  appended_other_blocks s ne =
      grind (arith, appended_blocks, made_free, block_before, old_kind, get_block, rest_kind)
