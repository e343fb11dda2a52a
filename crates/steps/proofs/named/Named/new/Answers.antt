use Rattle.{std.proofs.Common.rules, steps.proofs.NamingLemmas.{empty_named, none_given}}
use Rattle.steps.proofs.named.Named.new.Goals as goal

pub returns-clause-named : goal.returns-clause-named
returns-clause-named g c = search (rules, none_given)

pub returns-clause-empty : goal.returns-clause-empty
returns-clause-empty g c = empty_named _ (g.J.Judge.held c.args.judge) c.requires.empty
