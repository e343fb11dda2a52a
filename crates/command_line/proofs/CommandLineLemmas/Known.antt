-- A word that begins with a hyphen and is no flag is refused.
use Rattle.clap.specs.{Faults.{fault_of, turn_fault, walk_fault}, Walk.{Row, Text, Walk}}
use Rattle.command_line.proofs.CommandLineLemmas.{Rules.{fault_is, top_of}, Steps.{After, end_mark}}
use Rattle.command_line.proofs.CommandLineLemmas.Steps.{start_after, step_after, tail_free}
use Rattle.command_line.proofs.CommandLineLemmas.Turns.{Passes, Pending, Settles, at, long_met}
use Rattle.command_line.proofs.CommandLineLemmas.Turns.{long_word, nat_eq_same, or_nil}
use Rattle.command_line.proofs.CommandLineLemmas.Turns.{short_refused, taken}
use Rattle.command_line.specs.{Code.Commands.command_of, Words.{begins_with_hyphen, is_among}}
use Rattle.command_line.specs.{Words.{is_flag, is_known}, declared.tool.Tool.Tool}
use Rattle.std.proofs.Common.{Bool, List, None, Option, Some, [], ap, arith, codes, false, map}
use Rattle.std.proofs.Common.{refl, rules, sym, true, true≢false, ℕ, ◌++◌, ◌∙◌, ◌∷◌, ◌≡◌}
use Rattle.std.proofs.lemmas.Str.{IsCharBoundary-after_ascii, IsUtf8-drop, IsUtf8-from_is_utf8}
use Rattle.std.{proofs.lemmas.Str.{IsUtf8-had, is_utf8-from_IsUtf8}, specs.List.list_all}
use Rattle.std.specs.Prelude.{String, drop, is_some, not, slice_get, string_bytes, ◌&&◌, ◌==◌, ◌||◌}
use Rattle.std.specs.Str.{IsUtf8, all_scalars, bytes_eq, chars, encode_utf8_all, is_utf8}

-- the text after a hyphen is text, and has a first character
tail_is_text : (y : ℕ) (ys : Text) → is_utf8 (45 ∷ y ∷ ys) ≡ true → is_utf8 (y ∷ ys) ≡ true
tail_is_text y ys u =
    let whole : IsUtf8 (45 ∷ y ∷ ys) = IsUtf8-from_is_utf8 _ u in
    is_utf8-from_IsUtf8 (y ∷ ys) (IsUtf8-drop (45 ∷ y ∷ ys) 1 whole
    (IsCharBoundary-after_ascii (45 ∷ y ∷ ys) 0 whole (omega arith) (omega arith)))

first_char : (y : ℕ) (ys : Text) → is_utf8 (y ∷ ys) ≡ true →
    slice_get (chars (y ∷ ys)) 0 ≡ None → ⊥
unfolding is_utf8
first_char y ys u none = go (chars (y ∷ ys)) none u
  where
    go : (cs : List ℕ) → slice_get cs 0 ≡ None →
        (all_scalars cs && bytes_eq (encode_utf8_all cs) (y ∷ ys)) ≡ true → ⊥
    go [] none e = search rules
    go (k ∷ cs) none e = true≢false (ap is_some none)

abbrev is_plain_word : Text → Bool
is_plain_word word = not (begins_with_hyphen word) || bytes_eq word (codes "-")

module _ (tool : Tool) (r : List Row) (p : Pending) (n : ℕ) (s : Settles tool r p) where
  -- the word is no flag, and is not refused
  abbrev Unrefused : Text → Type 0 → Type 0
  Unrefused word Then = is_flag tool word ≡ false → bytes_eq word (codes "--") ≡ false →
      is_utf8 word ≡ true → Passes tool (at r p n) word → Then

  plain_at : (word : Text) → Unrefused word (is_plain_word word ≡ true)
  plain_at [] flag mark u f = refl
  plain_at (x ∷ xs) flag mark u f = go (x == 45) refl xs flag mark u f
    where
      third : (ys : Text) → Unrefused (long_word ys) ⊥
      third [] flag mark u f = true≢false mark
      third (z ∷ zs) flag mark u f = long_met tool r p n z zs flag s f

      first : (y : ℕ) (ys : Text) → (y == 45) ≡ false → is_utf8 (45 ∷ y ∷ ys) ≡ true →
          Passes tool (at r p n) (45 ∷ y ∷ ys) →
          (o : Option ℕ) → slice_get (chars (y ∷ ys)) 0 ≡ o → ⊥
      first y ys e u f None none = first_char y ys (tail_is_text y ys u) none
      first y ys e u f (Some k) some = short_refused tool r p n y ys e s k some f

      second : (y : ℕ) (ys : Text) (b : Bool) → (y == 45) ≡ b → Unrefused (45 ∷ y ∷ ys) ⊥
      second y ys false e flag mark u f = first y ys e u f (slice_get (chars (y ∷ ys)) 0) refl
      second y ys true e flag mark u f =
          let is = nat_eq_same y 45 e in
          third ys (grind arith) (grind arith) (grind arith) (grind arith)

      go : (b : Bool) → (x == 45) ≡ b → (xs : Text) →
          Unrefused (x ∷ xs) (is_plain_word (x ∷ xs) ≡ true)
      go false e xs flag mark u f = grind arith
      go true e [] flag mark u f = grind (arith, is_plain_word)
      go true e (y ∷ ys) flag mark u f =
          let is = nat_eq_same x 45 e in absurd
          (second y ys (y == 45) refl (grind arith) (grind arith) (grind arith) (grind arith))

and_true : (a b : Bool) → a ≡ true → b ≡ true → (a && b) ≡ true
and_true a b e f = ap (λ x. x && b) e ∙ f

pub words_known : (tool : Tool) (words done : List Text) (w : Walk) → After tool done w →
    is_among words end_mark ≡ false → list_all is_utf8 words ≡ true →
    walk_fault (top_of tool) [] w words ≡ [] → list_all (is_known tool) words ≡ true
unfolding walk_fault
words_known tool [] done w a free u f = refl
words_known tool (word ∷ words) done w a free u f =
    let passed = or_nil (turn_fault (top_of tool) [] w word) _ f in
    let apart = tail_free word words free in
    and_true (is_known tool word) (list_all (is_known tool) words)
    (search (rules, plain_at, top_of))
    (words_known tool words (done ++ word ∷ []) (taken tool w word) (grind (arith, step_after))
    apart.1 (search rules) passed.1)

pub all_text : {Z : Type 0} (words : List (String Z)) → list_all is_utf8 (map string_bytes words) ≡ true
all_text [] = refl
all_text (word ∷ words) =
    and_true _ _ (grind (arith, is_utf8-from_IsUtf8, IsUtf8-had)) (all_text words)

-- each word of a parse that succeeds is known
pub parse_knows : (tool : Tool) (words : List Text) → fault_of (command_of tool) words ≡ [] →
    is_among (drop 1 words) end_mark ≡ false → list_all is_utf8 (drop 1 words) ≡ true →
    list_all (is_known tool) (drop 1 words) ≡ true
parse_knows tool words f free u =
    words_known tool (drop 1 words) [] (at [] None 1) (start_after tool) free u
    (or_nil (walk_fault (top_of tool) [] (at [] None 1) (drop 1 words)) _
    (sym (fault_is tool words) ∙ f)).0
