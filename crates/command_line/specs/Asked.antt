-- What the words of a command line ask for (our own profile).
use Rattle.std.specs.Prelude.{◌≡◌, false, List, Some, String, option_map, string_bytes}
use Rattle.command_line.specs.Words.{Asked, end_mark, is_among, said_by}
use Rattle.command_line.specs.Words as words
use Rattle.command_line.specs.declared.args.Args.{Args}
use Rattle.command_line.specs.declared.tool.Tool.{Tool}

-- what the arguments ask for
abbrev pub asked_of : Args → Asked
asked_of a = record {
  binary = a.binary;
  trace = a.trace;
  strict = a.strict;
  pr = a.pr;
  keep_units = a.keep_units;
  formula = Some (string_bytes a.formula);
  second = option_map string_bytes a.second;
}

-- The arguments are what the words ask of the tool, where none of these is `--`.
abbrev pub IsAsked : {Z : Type 0} → Tool → List (String Z) → Args → Type 0
IsAsked tool all a =
    is_among (said_by all) end_mark ≡ false → asked_of a ≡ words.args tool (said_by all)
