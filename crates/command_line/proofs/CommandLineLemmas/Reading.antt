-- From a parse of the command to what the words say.
use Rattle.clap.{proofs.WalkLemmas.one_text-rows, specs.Simple.{HasMatchesOf, matches_of}}
use Rattle.clap.specs.Words.{App, FailsBy, Text, fault_of, found_of, is_simple_and_free, kind_of}
use Rattle.{clap.specs.Words.{one_text, rows_of}, std.proofs.Common.{rules, sym, true, ◌∙◌, ◌≡◌}}
use Rattle.clap.specs.declared.{error.Error.Error, parser.matches.ArgMatches.ArgMatches}
use Rattle.command_line.proofs.CommandLineLemmas.{Accepted.{known_free, no_fault}, Turns.long_word}
use Rattle.command_line.proofs.CommandLineLemmas.Ends.{IsRead, Reads, flag_text, parse_reads}
use Rattle.command_line.proofs.CommandLineLemmas.{Known.{all_text, parse_knows}, Rules.is_plain}
use Rattle.command_line.specs.{Code.Commands.command_of, declared.tool.Tool.Tool}
use Rattle.command_line.specs.Words.{Accepts, end_mark, is_among, is_flag, is_known, said_by}
use Rattle.std.proofs.Common.{Bool, List, None, Option, Some, [], ap, arith, codes, false, map}
use Rattle.std.specs.{List.list_all, Prelude.{Err, String, string_bytes, ◌&&◌}}
use Rattle.clap.specs.declared.error.kind.ErrorKind.TheVariants as kind

-- what `get_flag` gives
flag_read : (has set b : Bool) (text : Option Text) → text ≡ flag_text has set → (text ≡ None → b ≡ false) → (text ≡ Some (codes "true") → b ≡ true)
    → (text ≡ Some (codes "false") → b ≡ false) → b ≡ (has && set)
flag_read has set b text h h2 h3 h4 = search rules

module _ (tool : Tool) (app : App) (is : app ≡ command_of tool) {Z : Type 0}
    (ws : List (String Z)) where
  -- the words are parsed without a fault
  abbrev IsParsed : Type 0
  IsParsed = is_simple_and_free app ≡ true → fault_of app (map string_bytes ws) ≡ []

  -- a parse that succeeds
  module _ (m : ArgMatches) (matches : HasMatchesOf app (map string_bytes ws) m)
      (kinds : IsParsed) (free : is_among (said_by ws) end_mark ≡ false) where
    pub reads : Reads tool (said_by ws) (rows_of (found_of m))
    reads =
        let words = map string_bytes ws in
        let none : fault_of (command_of tool) words ≡ [] =
        ap (λ a. fault_of a words) (sym is) ∙ kinds (grind arith) in
        let rows : rows_of (found_of m) ≡ matches_of (command_of tool) words = grind arith in
        let read = parse_reads tool words none (grind arith) in
        grind arith

    -- what `get_flag` gives of it
    pub flag_given : (name : Text) → (Reads tool (said_by ws) (rows_of (found_of m)) →
        IsRead tool (said_by ws) (rows_of (found_of m)) name) → (b : Bool) →
        (one_text (found_of m) name ≡ None → b ≡ false) →
        (one_text (found_of m) name ≡ Some (codes "true") → b ≡ true) →
        (one_text (found_of m) name ≡ Some (codes "false") → b ≡ false) →
        b ≡ (is_flag tool (long_word name) && is_among (said_by ws) (long_word name))
    flag_given name read b = flag_read _ _ b (one_text (found_of m) name)
        (one_text-rows (found_of m) name ∙ read reads)

  -- each word of a parse that succeeds is known
  pub knows : IsParsed → is_among (said_by ws) end_mark ≡ false →
      list_all (is_known tool) (said_by ws) ≡ true
  knows kinds free = search (rules, is_plain, parse_knows, all_text)

  -- a parse that fails, where the words are accepted
  pub fails_for_memory : (e : Error) → (is_simple_and_free app ≡ true →
      FailsBy {T = ArgMatches} (fault_of app (map string_bytes ws)) (Err e)) →
      Accepts tool (said_by ws) → kind_of e ≡ kind.OutOfMemory
  fails_for_memory e kinds accepts = search (rules, no_fault)

-- accepted words have no `--`
pub known_words : (tool : Tool) (words : List Text) → Accepts tool words → is_among words end_mark ≡ false
known_words tool words accepts = known_free tool words accepts.known
