use Rattle.{cnf_base.specs.Literals.complements, drat_steps.proofs.DratLemmas.Steps.listed_rup}
use Rattle.{drat_steps.proofs.DratLemmas.Steps.no_clash, propagation.specs.Assumptions.assumed_by}
use Rattle.{std.proofs.Common.{arith, rules, subst, ◌++◌}, theory.specs.Propagation.Clash}
use Rattle.drat_steps.proofs.addition.AdditionChecker.judge_consistent.Goals as goal

pub judge_without_rup-judged-requires-clause-assumed :
    goal.judge_without_rup-judged-requires-clause-assumed
judge_without_rup-judged-requires-clause-assumed g c =
    let old = g.P.Propagate.state _ in let lits = c.args.lits.now in
    let assumed = assumed_by old.assumptions ++ complements lits in record {
      room = search rules;
      quiet = search rules;
      assumed = search rules;
      no_rup = no_clash old.live (g.P.Propagate.state _).live lits assumed
          c.in-Ok-Quiet.ensures.assumed.live
          (rw c.in-Ok-Quiet.field-0-is at c.in-Ok-Quiet.ensures.assumed.answer)
          (grind arith);
    }

pub returns-in-Ok-Clash-clause-answers : goal.returns-in-Ok-Clash-clause-answers
returns-in-Ok-Clash-clause-answers g c =
    listed_rup _ _ _ _ c.word_of.ensures c.requires.listed.consistent c.requires.listed.meets
    (subst (Clash _) (grind arith)
    (rw c.in-Ok-Clash.field-0-is at c.in-Ok-Clash.ensures.assumed.answer))
