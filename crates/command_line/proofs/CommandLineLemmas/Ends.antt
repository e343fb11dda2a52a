-- What the parse gives at the end: the defaults, the last checks, and what is read of the rows.
use Rattle.clap.specs.{Faults.{fault_of, walk_fault}, Simple.matches_of, Walk.{Row, Text, Walk}}
use Rattle.clap.specs.Walk.{finished, first_of, one_of, reading_by, row_text, with_default}
use Rattle.clap.specs.declared.parser.matches.ValueSource.TheVariants.{DefaultValue}
use Rattle.command_line.proofs.CommandLineLemmas.Rows.{at_end, has_row-row_for, row_for}
use Rattle.command_line.proofs.CommandLineLemmas.Rules.{fault_is, files_and_texts, flag_full}
use Rattle.command_line.proofs.CommandLineLemmas.Rules.{formula_full, matches_are, rules_of}
use Rattle.command_line.proofs.CommandLineLemmas.{Rules.{second_full, top_of}, Steps.{After, Shows}}
use Rattle.command_line.proofs.CommandLineLemmas.Steps.{end_mark, flag_row, start_after}
use Rattle.command_line.proofs.CommandLineLemmas.{Steps.words_after, Turns.{at, long_word, or_nil}}
use Rattle.command_line.specs.{Code.Commands.command_of, Words.{is_among, is_flag, names}}
use Rattle.command_line.specs.declared.tool.Tool.{Tool, TheVariants.{Drat, Lrat, Model}}
use Rattle.std.proofs.Common.{Bool, List, None, Option, Some, [], arith, codes, cond, false, length}
use Rattle.std.proofs.{Common.{rules, sym, ◌∙◌, ◌∷◌, ◌≡◌, ◌≤◌}, lemmas.List.Folds.find-append}
use Rattle.std.{proofs.lemmas.Slice.Eq.bytes_eq-Decides, specs.{List.fold, Option.option_or}}
use Rattle.std.specs.{Prelude.{drop, option_and_then, slice_get, ◌&&◌}, Str.bytes_eq}

-- ---- defaults

abbrev pub off_row : Text → Row
off_row name = record {
  id = name;
  values = codes "false" ∷ [];
  count = None;
  source = Some DefaultValue;
  reading = reading_by (flag_full name);
}

-- what the default of a flag gives an id
abbrev off_for : Text → Text → Option Row
off_for f id = cond (bytes_eq f id) (Some (off_row f)) None

flag_default : (f id : Text) (rows : List Row) → row_for id (with_default rows (flag_full f)) ≡ option_or (row_for id rows) (off_for f id)
flag_default f id rows =
    grind (arith, row_for, bytes_eq-Decides, has_row-row_for, flag_full, at_end, find-append)

files_default : (rows : List Row) → fold with_default rows files_and_texts ≡ rows
files_default rows = search rules

abbrev pub end_row : Tool → Text → Option Row → Option Row
end_row Drat id o =
    option_or (option_or (option_or (option_or (option_or o (off_for (codes "binary") id)) (off_for (codes "trace") id)) (off_for (codes "strict") id)) (off_for (codes "pr") id)) (off_for (codes "keep-units") id)
end_row Lrat id o = option_or o (off_for (codes "trace") id)
end_row Model id o = o

pub row_at_end : (tool : Tool) (id : Text) (rows : List Row) →
    row_for id (fold with_default rows (rules_of tool)) ≡ end_row tool id (row_for id rows)
row_at_end tool id rows = search (rules, flag_full, row_for, files_default, flag_default)

-- ---- what is read at the end

-- the text of a flag: that it is set, or not, where the tool has it
abbrev pub flag_text : Bool → Bool → Option Text
flag_text has set = cond has (Some (cond set (codes "true") (codes "false"))) None

text_at_end : (tool : Tool) (id : Text) → Bool → Option Text
text_at_end tool id set = option_and_then row_text
    (end_row tool id (cond (is_flag tool (long_word id) && set) (Some (flag_row id)) None))

abbrev IsFlagText : Tool → Text → Bool → Type 0
IsFlagText tool id set = text_at_end tool id set ≡ flag_text (is_flag tool (45 ∷ 45 ∷ id)) set

-- the text of each flag at the end
record FlagTexts (tool : Tool) (set : Bool) : Type 0 where
  binary : IsFlagText tool (codes "binary") set
  trace : IsFlagText tool (codes "trace") set
  strict : IsFlagText tool (codes "strict") set
  pr : IsFlagText tool (codes "pr") set
  keep_units : IsFlagText tool (codes "keep-units") set

flag_texts : (tool : Tool) (set : Bool) → FlagTexts tool set
unfolding text_at_end
flag_texts tool set = search rules

-- what is read of the flag is what the words say
abbrev pub IsRead : Tool → List Text → List Row → Text → Type 0
IsRead tool words rows name =
    one_of name rows ≡ flag_text (is_flag tool (long_word name)) (is_among words (long_word name))

pub record Reads (tool : Tool) (words : List Text) (rows : List Row) : Type 0 where
  pub binary : IsRead tool words rows (codes "binary")
  pub trace : IsRead tool words rows (codes "trace")
  pub strict : IsRead tool words rows (codes "strict")
  pub pr : IsRead tool words rows (codes "pr")
  pub keep_units : IsRead tool words rows (codes "keep-units")
  pub formula : first_of (codes "formula") rows ≡ slice_get (names tool words) 0
  pub second : first_of (codes "second") rows ≡ slice_get (names tool words) 1
  pub few : length (names tool words) ≤ 2

reads_shown : (tool : Tool) (words ns : List Text) (rows : List Row) → length ns ≤ 2 →
    Shows tool words ns rows → Reads tool words (fold with_default rows (rules_of tool))
unfolding text_at_end
reads_shown tool words ns rows few s =
    grind (arith, row_at_end, flag_texts, formula_full, second_full)

reads_after : (tool : Tool) (words : List Text) (w : Walk) → After tool words w →
    Reads tool words (finished (rules_of tool) w.held)
reads_after tool words w a = rw a.is (search (rules, reads_shown))

-- a parse that succeeds reads what the words say
pub parse_reads : (tool : Tool) (words : List Text) → fault_of (command_of tool) words ≡ [] →
    is_among (drop 1 words) end_mark ≡ false →
    Reads tool (drop 1 words) (matches_of (command_of tool) words)
parse_reads tool words f free =
    let walked_free = (or_nil (walk_fault (top_of tool) [] (at [] None 1) (drop 1 words)) _ (sym (fault_is tool words) ∙ f)).0 in
    let a = words_after tool (drop 1 words) [] (at [] None 1) (start_after tool) free walked_free in
    rw (matches_are tool words) (search (rules, reads_after))
