-- The words that a tool accepts are not refused.
use Rattle.clap.specs.Faults.{check_fault, default_fault, defaults_fault, fault_of, settle_fault}
use Rattle.clap.specs.{Faults.walk_fault, Kinds.{Kinds, or_else}, Takes.is_given, Walk.with_default}
use Rattle.clap.specs.Walk.{Held, Row, Text, Walk, finished, nothing_held, settled, walk}
use Rattle.command_line.proofs.CommandLineLemmas.{Ends.row_at_end, Rows.{names_added, names_kept}}
use Rattle.command_line.proofs.CommandLineLemmas.Rules.{fault_is, files_and_texts, flag_full}
use Rattle.{command_line.proofs.CommandLineLemmas.Rules.{rules_of, top_of}, std.proofs.Common.◌≤◌}
use Rattle.command_line.proofs.CommandLineLemmas.Steps.{After, Shows, end_mark, flag_passes}
use Rattle.command_line.proofs.CommandLineLemmas.Steps.{hyphen_passes, name_passes, start_after}
use Rattle.command_line.proofs.CommandLineLemmas.Steps.{step_after, tail_free, words_after}
use Rattle.{command_line.proofs.CommandLineLemmas.Turns.{Passes, at, taken}, std.specs.Str.bytes_eq}
use Rattle.{command_line.specs.Code.Commands.command_of, std.specs.List.{fold, list_all, list_any}}
use Rattle.command_line.specs.Words.{Accepts, is_among, is_empty_word, is_flag, is_known}
use Rattle.command_line.specs.Words.{is_read_twice, is_some_empty, names, times}
use Rattle.command_line.specs.declared.tool.Tool.{Tool, TheVariants.{Drat, Lrat, Model}}
use Rattle.std.proofs.Common.{Bool, List, None, Option, Some, String, [], ap, ap₂, arith, codes}
use Rattle.std.proofs.Common.{false, length, length-append, option_map, refl, rules, string_bytes}
use Rattle.std.proofs.Common.{subst, suc, true, true≢false, zero, ℕ, ◌++◌, ◌+◌, ◌<◌, ◌∙◌, ◌∷◌, ◌≡◌}
use Rattle.std.proofs.lemmas.{Bool.Decides.nat_tests, Grind.common_steps, Slice.Eq.bytes_eq-Decides}
use Rattle.std.specs.Prelude.{drop, filter, is_some, not, slice_get, ◌&&◌, ◌==◌, ◌||◌}

nils : (a b : Kinds) → a ≡ [] → b ≡ [] → or_else a b ≡ []
nils a b e f = ap₂ or_else e f

-- ---- the last checks

flag_default_fault : (f : Text) (rows : List Row) → default_fault rows (flag_full f) ≡ []
flag_default_fault f rows = search rules

files_fault : (rows : List Row) → defaults_fault rows files_and_texts ≡ []
unfolding defaults_fault
files_fault rows = search rules

all_defaults_fault : (tool : Tool) (rows : List Row) → defaults_fault rows (rules_of tool) ≡ []
unfolding defaults_fault
all_defaults_fault Drat rows = simp (nils, flag_default_fault, flag_full, files_fault)
all_defaults_fault Lrat rows = search rules
all_defaults_fault Model rows = files_fault rows

formula_given : (tool : Tool) (words ns : List Text) (rows : List Row) →
    Shows tool words ns rows → 1 ≤ length ns →
    is_given (codes "formula") (fold with_default rows (rules_of tool)) ≡ true
formula_given tool words [] rows s some = absurd (omega arith)
formula_given tool words (a ∷ ns) rows s some = search (rules, row_at_end)

abbrev rest_fault : Tool → Held → Kinds
rest_fault tool h = or_else (settle_fault (rules_of tool) false h)
    (or_else (defaults_fault (settled (rules_of tool) h).rows (rules_of tool)) (check_fault (top_of tool) (finished (rules_of tool) h) false))

-- ---- the words

both : (a b : Bool) → (a && b) ≡ true → (a ≡ true) × (b ≡ true)
both a b h = search rules

neither : (a b : Bool) → (a || b) ≡ false → (a ≡ false) × (b ≡ false)
neither a b h = search rules

pub known_free : (tool : Tool) (words : List Text) → list_all (is_known tool) words ≡ true →
    is_among words end_mark ≡ false
known_free tool [] known = refl
known_free tool (word ∷ words) known = grind (arith, both, (known_free tool words))

never_among : (f : Text) (done : List Text) → times f done ≤ 0 → is_among done f ≡ false
never_among f [] none = refl
never_among f (x ∷ done) none = grind (arith, (never_among f done), bytes_eq)

-- what is left of the words is accepted after those before them
record Fits (tool : Tool) (done words : List Text) : Type 0 where
  full : list_any is_empty_word words ≡ false
  most : length (names tool done) + length (names tool words) ≤ 2
  known : list_all (is_known tool) words ≡ true
  once : (f : Text) → is_flag tool f ≡ true → times f done + times f words ≤ 1

module _ (tool : Tool) (done : List Text) (word : Text) (words : List Text) (fits : Fits tool done (word ∷ words)) where
  names_step : (b : Bool) → is_flag tool word ≡ b → length (names tool (done ++ word ∷ [])) + length (names tool words) ≤ length (names tool done) + length (names tool (word ∷ words))
  names_step true e = grind (arith, names_kept)
  names_step false e = grind (arith, names_added, length-append)

turn_passes : (tool : Tool) (done : List Text) (word : Text) (words : List Text) →
    Fits tool done (word ∷ words) → (w : Walk) → After tool done w → Passes tool w word
turn_passes tool done word words fits w a = go (is_flag tool word) refl
  where
    plain_word : (word : Text) → is_empty_word word ≡ false → is_known tool word ≡ true →
        is_flag tool word ≡ false → length (names tool done) < 2 → Passes tool w word
    plain_word [] full known flag few = absurd (true≢false full)
    plain_word (x ∷ xs) full known flag few = by_first (x == 45) refl (grind arith)
      where
        by_first : (b : Bool) → (x == 45) ≡ b →
            (not b || bytes_eq (x ∷ xs) (codes "-")) ≡ true → Passes tool w (x ∷ xs)
        by_first false e k = name_passes tool done w a x xs flag e few
        by_first true e k = subst (Passes tool w) (search rules) (hyphen_passes tool done w a few)

    go : (b : Bool) → is_flag tool word ≡ b → Passes tool w word
    go true flag =
        flag_passes tool done w a word flag (grind (arith, bytes_eq-Decides, never_among))
    go false flag =
        plain_word word (neither _ _ fits.full).0 (both _ _ fits.known).0 flag (grind arith)

walk_passes : (tool : Tool) (words done : List Text) (w : Walk) → After tool done w →
    Fits tool done words → walk_fault (top_of tool) [] w words ≡ []
unfolding walk_fault
walk_passes tool [] done w a fits = refl
walk_passes tool (word ∷ words) done w a fits =
    let passes = turn_passes tool done word words fits w a in
    let apart = tail_free word words (search (rules, known_free)) in
    nils _ _ passes
    (walk_passes tool words (done ++ word ∷ []) (taken tool w word) (grind (arith, step_after))
    (search (rules, arith, common_steps, nat_tests, names_step, neither, both)))

-- a parse of accepted words has no fault
pub no_fault : (tool : Tool) (words : List Text) → Accepts tool (drop 1 words) →
    fault_of (command_of tool) words ≡ []
no_fault tool words accepts =
    let said = drop 1 words in
    let fits : Fits tool [] said = search (rules, arith, accepts.most, accepts.once) in
    let passes = walk_passes tool said [] (at [] None 1) (start_after tool) fits in
    let after = words_after tool said [] (at [] None 1) (start_after tool)
    (grind (arith, known_free)) passes in
    fault_is tool words
    ∙ nils (walk_fault (top_of tool) [] (at [] None 1) said) (rest_fault tool (walk (rules_of tool) [] nothing_held said).held) passes
    (search (rules, rules_of, nils, all_defaults_fault, formula_given))

-- accepted words name the formula
pub has_formula : (tool : Tool) (words : List Text) → Accepts tool words → slice_get (names tool words) 0 ≡ None → ⊥
has_formula tool words accepts none = go (names tool words) accepts.least none
  where
    go : (ns : List Text) → 1 ≤ length ns → slice_get ns 0 ≡ None → ⊥
    go [] least none = omega (arith, least)
    go (a ∷ ns) least none = cc

-- what is left of words none of which passes a test
none_left : (p t : Text → Bool) (words : List Text) → list_any t words ≡ false →
    list_any t (filter p words) ≡ false
none_left p t [] e = refl
none_left p t (w ∷ ws) e = grind (arith, (none_left p t ws), list_any, true≢false)

at_none : (t : Text → Bool) (words : List Text) (k : ℕ) (w : Text) → list_any t words ≡ false →
    Some w ≡ slice_get words k → t w ≡ false
at_none t [] k w e is = absurd (true≢false (ap is_some is))
at_none t (x ∷ xs) zero w e is = search rules
at_none t (x ∷ xs) (suc k) w e is = at_none t xs k w (search rules) is

module _ {Z : Type 0} (tool : Tool) (words : List Text) (formula : Text)
    (second : Option (String Z)) (accepts : Accepts tool words)
    (first : Some formula ≡ slice_get (names tool words) 0)
    (then_second : option_map string_bytes second ≡ slice_get (names tool words) 1) where
  -- the names of accepted words are not empty
  pub names_full : (is_empty_word formula || is_some_empty second) ≡ false
  names_full = rw (at_none is_empty_word (names tool words) 0 formula full first)
      (by second then_second)
    where
      full : list_any is_empty_word (names tool words) ≡ false
      full = search (rules, none_left)

      by : (s : Option (String Z)) → option_map string_bytes s ≡ slice_get (names tool words) 1 →
          is_some_empty s ≡ false
      by None is = refl
      by (Some name) is = at_none is_empty_word (names tool words) 1 (string_bytes name) full is

  -- nor are both standard input
  pub names_apart : is_read_twice (Some formula) (option_map string_bytes second) ≡ false
  names_apart = cc
