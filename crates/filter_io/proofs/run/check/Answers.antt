-- The tool's own check.
use Rattle.filter_io.proofs.RunLemmas.{of_tool, answers_of_tool}
use Rattle.command_line.specs.declared.tool.Tool.TheVariants.{Drat, Lrat, Model}
use Rattle.filter_io.proofs.run.check.Goals as goal

pub returns-in-Drat-clause-checks : goal.returns-in-Drat-clause-checks
returns-in-Drat-clause-checks g c = of_tool c.args.tool Drat c.args.args.now _ _ _ _ _ _ _ _ _ _ c.in-Drat.is c.drat_forward.ensures.runs

pub returns-in-Lrat-clause-checks : goal.returns-in-Lrat-clause-checks
returns-in-Lrat-clause-checks g c = of_tool c.args.tool Lrat c.args.args.now _ _ _ _ _ _ _ _ _ _ c.in-Lrat.is c.lrat_check.ensures.runs

pub returns-in-Model-clause-checks : goal.returns-in-Model-clause-checks
returns-in-Model-clause-checks g c = of_tool c.args.tool Model c.args.args.now _ _ _ _ _ _ _ _ _ _ c.in-Model.is c.run_model_placed.ensures.runs

pub returns-in-Drat-clause-answers : goal.returns-in-Drat-clause-answers
returns-in-Drat-clause-answers g c = answers_of_tool c.args.tool Drat _ _ _ _ _ c.in-Drat.is c.drat_forward.ensures.unsatisfiable

pub returns-in-Lrat-clause-answers : goal.returns-in-Lrat-clause-answers
returns-in-Lrat-clause-answers g c = answers_of_tool c.args.tool Lrat _ _ _ _ _ c.in-Lrat.is c.lrat_check.ensures.unsatisfiable

pub returns-in-Model-clause-answers : goal.returns-in-Model-clause-answers
returns-in-Model-clause-answers g c = answers_of_tool c.args.tool Model _ _ _ _ _ c.in-Model.is c.run_model_placed.ensures.satisfied
