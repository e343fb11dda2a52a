use Rattle.{clap.proofs.WalkLemmas.first_value-rows, std.proofs.lemmas.Bool.true≢false}
use Rattle.{clap.specs.Words.{app_of, first_value, found_of, rows_of}, std.specs.Prelude.slice_get}
use Rattle.command_line.proofs.CommandLineLemmas.Accepted.{has_formula, names_apart, names_full}
use Rattle.command_line.proofs.CommandLineLemmas.{Ends.Reads, Reading.{knows, reads}}
use Rattle.command_line.proofs.CommandLineLemmas.Reading.{fails_for_memory, flag_given, known_words}
use Rattle.command_line.proofs.reader.read_args.Goals.{After-is_any_empty, in-None}
use Rattle.command_line.proofs.reader.read_args.Goals.{in-Some-get_str+in_ok-to_string-in-Some-get_str}
use Rattle.command_line.specs.Words.{Accepts, names, said_by}
use Rattle.std.proofs.Common.{None, Some, arith, codes, option_map, string_bytes, sym, ◌≡◌}
use Rattle.command_line.proofs.reader.read_args.Goals as goal

pub returns-in-Err-clause-accepts : goal.returns-in-Err-clause-accepts
returns-in-Err-clause-accepts c accepts = c.fault_from.ensures
    (fails_for_memory c.args.tool (app_of c.in_ok-command.command) c.in_ok-command.ensures
    c.args.words.now c.in-Err.error c.in-Err.ensures.kinds accepts)

pub returns-in_default-clause-accepts : goal.returns-in_default-clause-accepts
returns-in_default-clause-accepts c accepts =
    let words = said_by c.args.words.now in
    let found = found_of c.in-Ok.matches in
    let read =
    reads c.args.tool (app_of c.in_ok-command.command) c.in_ok-command.ensures c.args.words.now
    c.in-Ok.matches c.in-Ok.ensures.matches c.in-Ok.ensures.kinds
    (known_words c.args.tool words accepts)
    in
    let none : first_value found (codes "formula") ≡ None = sym c.in_default.ensures in
    grind (arith, has_formula, first_value-rows, codes)

-- what was found is what the words say
abbrev Found : After-is_any_empty → Type 0
Found c = Reads c.args.tool (said_by c.args.words.now) (rows_of (found_of c.in-Ok.matches))

-- the first name that was found
formula_found : (c : After-is_any_empty) → Found c → Some (string_bytes c.in_ok-formula.formula)
    ≡ slice_get (names c.args.tool (said_by c.args.words.now)) 0
formula_found c read = grind (arith, first_value-rows, codes)

-- the second one
second_found : (c : After-is_any_empty) → Found c → option_map string_bytes c.match-get_str-2.second
    ≡ slice_get (names c.args.tool (said_by c.args.words.now)) 1
second_found c read = grind (arith, first_value-rows)

-- both, where the words are accepted
named_in : (c : After-is_any_empty) → Accepts c.args.tool (said_by c.args.words.now) →
    (Some (string_bytes c.in_ok-formula.formula) ≡
    slice_get (names c.args.tool (said_by c.args.words.now)) 0)
    × (option_map string_bytes c.match-get_str-2.second ≡
    slice_get (names c.args.tool (said_by c.args.words.now)) 1)
named_in c accepts =
    let read =
    reads c.args.tool (app_of c.in_ok-command.command) c.in_ok-command.ensures c.args.words.now
    c.in-Ok.matches c.in-Ok.ensures.matches c.in-Ok.ensures.kinds
    (known_words c.args.tool (said_by c.args.words.now) accepts)
    in
    (formula_found c read, second_found c read)

pub returns-clause-asked : goal.returns-clause-asked
returns-clause-asked c free =
    let app = app_of c.in_ok-command.command in
    let kinds = c.in-Ok.ensures.kinds in
    let is = c.in_ok-command.ensures in
    let matches = c.in-Ok.ensures.matches in
    let read = reads c.args.tool app is c.args.words.now c.in-Ok.matches matches kinds free in
    let flag = flag_given c.args.tool app is c.args.words.now c.in-Ok.matches matches kinds free in
    let binary = c.get_flag.ensures in
    let trace = c.get_flag-2.ensures in
    let strict = c.get_flag-3.ensures in
    let pr = c.get_flag-4.ensures in
    let keep_units = c.get_flag-5.ensures in
    let path = (goal.at.returns-clause-asked c).After-is_any_empty in λ i. record {
      binary =
          flag (codes "binary") (λ read. read.binary) c.get_flag.result binary.none binary.value
          binary.other i;
      trace = flag (codes "trace") (λ read. read.trace) c.get_flag-2.result trace.none trace.value
          trace.other i;
      strict =
          flag (codes "strict") (λ read. read.strict) c.get_flag-3.result strict.none strict.value
          strict.other i;
      pr = flag (codes "pr") (λ read. read.pr) c.get_flag-4.result pr.none pr.value pr.other i;
      keep_units =
          flag (codes "keep-units") (λ read. read.keep_units) c.get_flag-5.result keep_units.none
          keep_units.value keep_units.other i;
      formula = formula_found path read i;
      second = second_found path read i;
    }

-- more names than two are not read
pub returns-clause-names : goal.returns-clause-names
returns-clause-names c free =
    (reads c.args.tool (app_of c.in_ok-command.command) c.in_ok-command.ensures c.args.words.now
    c.in-Ok.matches c.in-Ok.ensures.matches c.in-Ok.ensures.kinds free).few

pub returns-clause-hyphens : goal.returns-clause-hyphens
returns-clause-hyphens c free =
    knows c.args.tool (app_of c.in_ok-command.command) c.in_ok-command.ensures c.args.words.now
    c.in-Ok.ensures.kinds free

pub returns-then-is_any_empty-clause-accepts : goal.returns-then-is_any_empty-clause-accepts
returns-then-is_any_empty-clause-accepts c accepts = grind (arith, named_in, names_full, true≢false)

pub returns-then-is_read_twice-clause-accepts : goal.returns-then-is_read_twice-clause-accepts
returns-then-is_read_twice-clause-accepts c accepts =
    grind (arith, named_in, names_apart, true≢false)
