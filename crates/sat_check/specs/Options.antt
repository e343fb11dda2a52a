-- What the arguments of a command line ask of a check (our own profile).
use Rattle.std.specs.Prelude.{ℕ}
use Rattle.command_line.specs.declared.args.Args.{Args}
use Rattle.sat_check.specs.declared.options.DratOptions.{DratOptions}
use Rattle.sat_check.specs.declared.options.LratOptions.{LratOptions}
use Rattle.theory.specs.declared.drat_rules.DratRules.{DratRules}

-- each flag asks for the option of its name; the seed is none of the words'
abbrev pub drat_options : Args → (seed : ℕ) → DratOptions
drat_options args seed = record {
  binary = args.binary;
  trace = args.trace;
  strict = args.strict;
  pr = args.pr;
  keep_units = args.keep_units;
  seed = seed;
}

-- of LRAT the trace alone is asked for
abbrev pub lrat_options : Args → LratOptions
lrat_options args = record { trace = args.trace }

-- the rules of DRAT that the flags ask for
abbrev pub drat_rules : Args → DratRules
drat_rules args = record { strict = args.strict; pr = args.pr; keep_units = args.keep_units }
