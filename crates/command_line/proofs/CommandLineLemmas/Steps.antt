-- What is held after each word, and what the walk gives at the end.
use Rattle.clap.{proofs.OnLiterals.clap_on_literals, specs.Walk.{Rule, Text, Walk, has_row, used}}
use Rattle.clap.specs.{Faults.{settle_fault, turn_fault, walk_fault}, Kinds.{Kinds, or_else}}
use Rattle.{clap.specs.Walk.Row, command_line.specs.Words.{is_among, is_flag, is_set, names}}
use Rattle.command_line.proofs.CommandLineLemmas.Rows.{among_added, among_kept, has_row-row_for}
use Rattle.command_line.proofs.CommandLineLemmas.Rows.{names_added, names_kept, new_row, row_added}
use Rattle.command_line.proofs.CommandLineLemmas.Rows.{row_for, row_kept, used_first}
use Rattle.command_line.proofs.CommandLineLemmas.Rules.{flag_full, formula_full, rules_of, top_of}
use Rattle.command_line.proofs.CommandLineLemmas.{Rules.second_full, Turns.{plain_taken, taken}}
use Rattle.command_line.proofs.CommandLineLemmas.Turns.{IsName, Passes, Pending, Settles, Taken}
use Rattle.command_line.proofs.CommandLineLemmas.Turns.{all_rows, at, holding, hyphen_taken, or_nil}
use Rattle.command_line.proofs.CommandLineLemmas.Turns.{long_word, name_fault, name_met, named}
use Rattle.command_line.specs.declared.tool.Tool.{Tool, TheVariants.{Drat, Lrat, Model}}
use Rattle.std.proofs.Common.{Bool, List, None, Option, Some, [], append-nil, append_assoc, arith}
use Rattle.std.proofs.Common.{codes, cond, false, length, refl, rules, suc, sym, true, true≢false}
use Rattle.std.proofs.{Common.{ℕ, ⊎_elim, ◌++◌, ◌<◌}, lemmas.Slice.Eq.bytes_eq-Decides}
use Rattle.std.proofs.Common.{◌∙◌, ◌∷◌, ◌≡◌, ◌≤◌}
use Rattle.std.specs.{List.fold, Prelude.{option_map, slice_get, ◌&&◌, ◌==◌, ◌||◌}, Str.bytes_eq}
use Rattle.clap.specs.declared.error.kind.ErrorKind.TheVariants as kind

abbrev pub flag_row : Text → Row
flag_row name = new_row (flag_full name) (codes "true" ∷ [])

abbrev pub set_row : Tool → Text → List Text → Option Row
set_row tool name done = cond (is_set tool (long_word name) done) (Some (flag_row name)) None

abbrev pub file_row : Rule → List Text → ℕ → Option Row
file_row a ns k = option_map (λ word. new_row a (word ∷ [])) (slice_get ns k)

-- the rows show the words so far, whose names are ns
pub record Shows (tool : Tool) (done ns : List Text) (rows : List Row) : Type 0 where
  pub said : names tool done ≡ ns
  pub binary : row_for (codes "binary") rows ≡ set_row tool (codes "binary") done
  pub trace : row_for (codes "trace") rows ≡ set_row tool (codes "trace") done
  pub strict : row_for (codes "strict") rows ≡ set_row tool (codes "strict") done
  pub pr : row_for (codes "pr") rows ≡ set_row tool (codes "pr") done
  pub keep_units : row_for (codes "keep-units") rows ≡ set_row tool (codes "keep-units") done
  pub formula : row_for (codes "formula") rows ≡ file_row formula_full ns 0
  pub second : row_for (codes "second") rows ≡ file_row second_full ns 1

-- the walk after the names ns
abbrev pub past : List Row → Pending → List Text → Walk
past r p ns = at r p (suc (length ns))

-- the walk stands after the words so far
pub record After (tool : Tool) (done : List Text) (w : Walk) : Type 0 where
  pub rows : List Row
  pub pending : Pending
  pub ns : List Text
  pub few : length ns ≤ 2
  pub is : w ≡ past rows pending ns
  pub settles : Settles tool rows pending
  pub shows : Shows tool done ns (all_rows tool rows pending)

-- and after one more
abbrev pub AfterOne : Tool → List Text → Walk → Text → Type 0
AfterOne tool done w word = After tool (done ++ word ∷ []) (taken tool w word)

-- ---- a flag

-- the rows with one more show what is set of the words with one more
abbrev ShowsSet : Tool → Text → List Text → List Row → Row → Text → Type 0
ShowsSet tool name done rows r word = row_for name rows ≡ set_row tool name done →
    row_for name (rows ++ r ∷ []) ≡ set_row tool name (done ++ word ∷ [])

module _ (tool : Tool) (name : Text) (done : List Text) (rows : List Row) where
  set_kept : (r : Row) (word : Text) → bytes_eq r.id name ≡ false →
      bytes_eq (long_word name) word ≡ false → ShowsSet tool name done rows r word
  set_kept r word id other shown = search (rules, row_kept, among_kept)

  -- a word that is no flag sets none
  set_by_name : (r : Row) (word : Text) → bytes_eq r.id name ≡ false →
      is_flag tool word ≡ false → ShowsSet tool name done rows r word
  set_by_name r word id flag shown = search (rules, row_kept, among_kept, bytes_eq-Decides)

file_kept : (name : Text) (a : Rule) (ns : List Text) (k : ℕ) (rows : List Row) (r : Row) →
    bytes_eq r.id name ≡ false → row_for name rows ≡ file_row a ns k →
    row_for name (rows ++ r ∷ []) ≡ file_row a ns k
file_kept name a ns k rows r id shown = row_kept name rows r id ∙ shown

-- the row of a name, after this flag
set_after : (tool : Tool) (done : List Text) (rows : List Row) (flag name : Text) →
    IsName tool flag → has_row flag rows ≡ false →
    ShowsSet tool name done rows (flag_row flag) (long_word flag)
set_after tool done rows flag name is new shown = go (bytes_eq flag name) refl
  where
    P : Text → Type 0
    P x = row_for x (rows ++ flag_row flag ∷ []) ≡ set_row tool x (done ++ long_word flag ∷ [])

    go : (b : Bool) → bytes_eq flag name ≡ b → P name
    go true same = grind (arith, bytes_eq-Decides, has_row-row_for, row_added, among_added)
    go false other = set_kept tool name done rows _ _ other (grind (arith, bytes_eq-Decides)) shown

-- why one more row of an argument is refused
abbrev conflict : Bool → Kinds
conflict b = or_else (cond (b && true) (kind.ArgumentConflict ∷ []) []) []

-- what the walk asks of a flag, and what it makes of it
abbrev FlagTurn : Tool → Text → List Row → Pending → List Text → Type 0
FlagTurn tool name r p ns = (turn_fault (top_of tool) [] (past r p ns) (long_word name)
    ≡ or_else (or_else (settle_fault (rules_of tool) false (holding r p))
    (conflict (has_row name (all_rows tool r p)))) [])
    × (taken tool (past r p ns) (long_word name)
    ≡ at (used (flag_full name) [] (all_rows tool r p)) None (suc (length ns)))

-- what the walk makes of each flag of `drat-forward`
record DratTurns (r : List Row) (p : Pending) (ns : List Text) : Type 0 where
  binary : FlagTurn Drat (codes "binary") r p ns
  trace : FlagTurn Drat (codes "trace") r p ns
  strict : FlagTurn Drat (codes "strict") r p ns
  pr : FlagTurn Drat (codes "pr") r p ns
  keep_units : FlagTurn Drat (codes "keep-units") r p ns

module _ (r : List Row) (p : Pending) (ns : List Text) where
  drat_turns : DratTurns r p ns
  unfolding clap_on_literals
  drat_turns = search rules

  lrat_trace : FlagTurn Lrat (codes "trace") r p ns
  unfolding clap_on_literals
  lrat_trace = (refl, refl)

no_conflict : (b : Bool) → conflict b ≡ [] → b ≡ false
no_conflict b h = search rules

-- ---- a flag of the tool, by its name

-- what is held after the word, and when it is not refused
record FlagMet (tool : Tool) (done : List Text) (w : Walk) (word : Text) : Type 0 where
  after : Passes tool w word → AfterOne tool done w word
  fine : is_among done word ≡ false → Passes tool w word

module _ (tool : Tool) (done : List Text) (r : List Row) (p : Pending) (ns : List Text)
    (few : length ns ≤ 2) (settles : Settles tool r p)
    (shows : Shows tool done ns (all_rows tool r p)) where
  module _ (name : Text) (turn : FlagTurn tool name r p ns) where
    flag_new : Passes tool (past r p ns) (long_word name) →
        has_row name (all_rows tool r p) ≡ false
    flag_new f = no_conflict _ (or_nil _ _ (or_nil _ _ (sym turn.0 ∙ f)).0).1

    flag_after : has_row name (all_rows tool r p) ≡ false → Shows tool (done ++ long_word name ∷ [])
        ns (all_rows tool r p ++ flag_row name ∷ []) →
        AfterOne tool done (past r p ns) (long_word name)
    flag_after new shows =
        let rows = all_rows tool r p in
        let grown : used (flag_full name) [] rows ≡ rows ++ flag_row name ∷ [] =
        used_first (flag_full name) (codes "true" ∷ []) rows new in
        grind (arith, flag_row, at)

    no_fault : has_row name (all_rows tool r p) ≡ false → Passes tool (past r p ns) (long_word name)
    no_fault new = cc

  has_none : (name : Text) → row_for name (all_rows tool r p) ≡ set_row tool name done →
      is_among done (long_word name) ≡ false → has_row name (all_rows tool r p) ≡ false
  has_none name shown none = grind (arith, has_row-row_for, flag_row)

  one_met : (name : Text) → bytes_eq name (codes "formula") ≡ false →
      bytes_eq name (codes "second") ≡ false →
      row_for name (all_rows tool r p) ≡ set_row tool name done → IsName tool name →
      FlagTurn tool name r p ns → FlagMet tool done (past r p ns) (long_word name)
  one_met name no_formula no_second shown flag turn =
      search (rules, flag_new, flag_after, no_fault, has_none, names_kept, set_after, file_kept)

pick : (P : Text → Type 0) (word f : Text) (rest : Bool) → (bytes_eq word f || rest) ≡ true →
    P f → (rest ≡ true → P word) → P word
pick P word f rest e here there = search rules

flag_met : (tool : Tool) (done : List Text) (r : List Row) (p : Pending) (ns : List Text) →
    length ns ≤ 2 → Settles tool r p → Shows tool done ns (all_rows tool r p) →
    (word : Text) → is_flag tool word ≡ true → FlagMet tool done (past r p ns) word
flag_met Drat done r p ns few settles shows word flag =
    let P : Text → Type 0 = FlagMet Drat done (past r p ns) in
    let turns = drat_turns r p ns in
    pick P word (codes "--binary") _ flag (grind (arith, one_met))
    (λ e. pick P word (codes "--trace") _ e (grind (arith, one_met))
    (λ e. pick P word (codes "--strict") _ e (grind (arith, one_met))
    (λ e. pick P word (codes "--pr") _ e (grind (arith, one_met))
    (λ e. pick P word (codes "--keep-units") false e (search (rules, one_met))
    (λ e. cc)))))
flag_met Lrat done r p ns few settles shows word flag = search (rules, pick, one_met, lrat_trace)
flag_met Model done r p ns few settles shows word flag = absurd (true≢false (sym flag))

-- ---- a name

-- what is held of a file name, after the names ns
abbrev FileTurn : Tool → Rule → List Row → Pending → List Text → Text → Type 0
FileTurn tool a r p ns word =
    (name_fault tool r p (suc (length ns)) ≡ settle_fault (rules_of tool) false (holding r p))
    × (named tool r p (suc (length ns)) word
    ≡ at (all_rows tool r p) (Some (a.id, word ∷ [])) (suc (suc (length ns))))
    × (all_rows tool (all_rows tool r p) (Some (a.id, word ∷ []))
    ≡ used a (word ∷ []) (all_rows tool r p))
    × (settle_fault (rules_of tool) false (holding (all_rows tool r p) (Some (a.id, word ∷ [])))
    ≡ conflict (has_row a.id (all_rows tool r p)))

and_false : (b : Bool) → (b && false) ≡ false
and_false b = search rules

module _ (tool : Tool) (r : List Row) (p : Pending) (word : Text) where
  first_turn : FileTurn tool formula_full r p [] word
  first_turn = search (rules, rules_of, and_false, formula_full)

  second_turn : (a : Text) → FileTurn tool second_full r p (a ∷ []) word
  second_turn a = search (rules, rules_of, and_false, second_full)

-- the word is a file name, and what is held after it
record FileMet (tool : Tool) (done : List Text) (r : List Row) (p : Pending) (ns : List Text)
    (word : Text) : Type 0 where
  after : name_fault tool r p (suc (length ns)) ≡ [] →
      After tool (done ++ word ∷ []) (named tool r p (suc (length ns)) word)
  fine : length ns < 2 → name_fault tool r p (suc (length ns)) ≡ []

module _ (tool : Tool) (done : List Text) (r : List Row) (p : Pending)
    (settles : Settles tool r p) (word : Text) (flag : is_flag tool word ≡ false) where
  -- the rows with a name that the rule a takes
  abbrev with_name : Rule → List Row
  with_name a = all_rows tool r p ++ new_row a (word ∷ []) ∷ []

  -- after the names ns
  name_taken : (a : Rule) (ns all : List Text) → length all ≡ suc (length ns) → length all ≤ 2 →
      FileTurn tool a r p ns word → has_row a.id (all_rows tool r p) ≡ false →
      used a (word ∷ []) (all_rows tool r p) ≡ with_name a →
      Shows tool (done ++ word ∷ []) all (with_name a) → FileMet tool done r p ns word
  name_taken a ns all grows few turn new grown shows = search rules

  -- what the rows show with its row
  name_shown : (a : Rule) (ns : List Text) → bytes_eq a.id (codes "binary") ≡ false → bytes_eq a.id (codes "trace") ≡ false → bytes_eq a.id (codes "strict") ≡ false → bytes_eq a.id (codes "pr") ≡ false → bytes_eq a.id (codes "keep-units") ≡ false
      → Shows tool done ns (all_rows tool r p) →
      row_for (codes "formula") (with_name a) ≡ file_row formula_full (ns ++ word ∷ []) 0 →
      row_for (codes "second") (with_name a) ≡ file_row second_full (ns ++ word ∷ []) 1 →
      Shows tool (done ++ word ∷ []) (ns ++ word ∷ []) (with_name a)
  name_shown a ns no_binary no_trace no_strict no_pr no_keep_units s formula second =
      search (rules, names_added, set_by_name)

  first_met : Shows tool done [] (all_rows tool r p) → FileMet tool done r p [] word
  first_met s =
      let new : has_row (codes "formula") (all_rows tool r p) ≡ false =
      grind (arith, has_row-row_for) in
      name_taken formula_full [] (word ∷ []) refl (omega arith) (first_turn tool r p word) new
      (used_first formula_full (word ∷ []) _ new)
      (name_shown formula_full [] refl refl refl refl refl s
      (grind (arith, row_added)) (grind (arith, row_kept)))

  second_met : (a : Text) → Shows tool done (a ∷ []) (all_rows tool r p) →
      FileMet tool done r p (a ∷ []) word
  second_met a s =
      let new : has_row (codes "second") (all_rows tool r p) ≡ false =
      grind (arith, has_row-row_for) in
      name_taken second_full (a ∷ []) (a ∷ word ∷ []) refl (omega arith)
      (second_turn tool r p word a) new (used_first second_full (word ∷ []) _ new)
      (name_shown second_full (a ∷ []) refl refl refl refl refl s
      (grind (arith, row_kept)) (grind (arith, row_added)))

  file_met : (ns : List Text) → Shows tool done ns (all_rows tool r p) →
      FileMet tool done r p ns word
  file_met [] s = first_met s
  file_met (a ∷ []) s = second_met a s
  file_met (a ∷ b ∷ ns) s = search rules

-- ---- one word

abbrev pub end_mark : Text
end_mark = codes "--"

module _ (tool : Tool) (done : List Text) (w : Walk) (a : After tool done w) where
  -- a word that the walk does not refuse leaves it after that word
  pub step_after : (word : Text) → bytes_eq word end_mark ≡ false → Passes tool w word →
      AfterOne tool done w word
  step_after word mark f = rw a.is (go (is_flag tool word) refl (rw a.is at f))
    where
      go : (b : Bool) → is_flag tool word ≡ b → Passes tool (past a.rows a.pending a.ns) word →
          AfterOne tool done (past a.rows a.pending a.ns) word
      go true flag f =
          (flag_met tool done a.rows a.pending a.ns a.few a.settles a.shows word flag).after f
      go false flag f = ⊎_elim
          (λ t. rw t.1 ((file_met tool done a.rows a.pending a.settles word flag a.ns
          a.shows).after (sym t.0 ∙ f)))
          (λ refused. absurd (refused f))
          (name_met tool a.rows a.pending _ word flag mark a.settles)

  -- a flag that was not there is not refused
  pub flag_passes : (word : Text) → is_flag tool word ≡ true → is_among done word ≡ false →
      Passes tool w word
  flag_passes word flag none = rw a.is
      ((flag_met tool done a.rows a.pending a.ns a.few a.settles a.shows word flag).fine none)

  -- nor is a word that is taken for a name, where there is room for one
  name_fine : (word : Text) → is_flag tool word ≡ false → length (names tool done) < 2 →
      Taken tool a.rows a.pending (suc (length a.ns)) word → Passes tool w word
  name_fine word flag few taken = rw a.is (taken.0
      ∙ (file_met tool done a.rows a.pending a.settles word flag a.ns a.shows).fine
      (rw a.shows.said at few))

  pub name_passes : (x : ℕ) (xs : Text) → is_flag tool (x ∷ xs) ≡ false → (x == 45) ≡ false →
      length (names tool done) < 2 → Passes tool w (x ∷ xs)
  name_passes x xs flag plain few =
      name_fine _ flag few (plain_taken tool a.rows a.pending _ x xs plain)

  pub hyphen_passes : length (names tool done) < 2 → Passes tool w (45 ∷ [])
  hyphen_passes few = name_fine _ (search rules) few (hyphen_taken tool a.rows a.pending _)

-- ---- all the words

pub tail_free : (word : Text) (words : List Text) → is_among (word ∷ words) end_mark ≡ false →
    (bytes_eq word end_mark ≡ false) × (is_among words end_mark ≡ false)
tail_free word words e = search rules

pub words_after : (tool : Tool) (words done : List Text) (w : Walk) → After tool done w →
    is_among words end_mark ≡ false → walk_fault (top_of tool) [] w words ≡ [] →
    After tool (done ++ words) (fold (taken tool) w words)
unfolding walk_fault
words_after tool [] done w a free f = rw append-nil a
words_after tool (word ∷ words) done w a free f =
    let both = or_nil (turn_fault (top_of tool) [] w word) _ f in
    let apart = tail_free word words free in
    rw append_assoc at (words_after tool words (done ++ word ∷ [])
    (taken tool w word) (grind (arith, step_after)) apart.1 both.1)

pub start_after : (tool : Tool) → After tool [] (at [] None 1)
start_after tool = search rules
