-- The texts that are told of a command line.
use Rattle.std.specs.Prelude.{ℕ, List, codes}
use Rattle.command_line.specs.declared.tool.Tool.{Tool}
use Rattle.command_line.specs.declared.tool.Tool.TheVariants.{Drat, Lrat, Model}

-- the name of the tool's program
abbrev pub name_of : Tool → List ℕ
name_of Drat = codes "drat-forward"
name_of Lrat = codes "lrat-check"
name_of Model = codes "model-check"
