use Rattle.steps.proofs.LratLemmas.{group_named_twice, group_not_candidate, group_walked}
use Rattle.{std.proofs.Common.arith, std.proofs.Common.sym, theory.specs.Lrat.units_of}
use Rattle.std.specs.FinMap as maps
use Rattle.steps.proofs.lrat.candidates.judge_group.Goals as goal

pub returns-then-not-contains-clause-refusal : goal.returns-then-not-contains-clause-refusal
returns-then-not-contains-clause-refusal c = group_not_candidate (maps.get c.args.live.now.live)
    c.args.trues.now.lits c.args.pivot c.args.named.now c.args.candidate
    (units_of c.args.hints.now) c.in-Some.clause.now (sym c.in-Some.ensures) (grind arith)

pub returns-then-not-branch-clause-refusal : goal.returns-then-not-branch-clause-refusal
returns-then-not-branch-clause-refusal c = group_named_twice (maps.get c.args.live.now.live)
    c.args.trues.now.lits c.args.pivot c.args.named.now c.args.candidate
    (units_of c.args.hints.now) c.in-Some.clause.now (sym c.in-Some.ensures) (grind arith)
    (grind arith)

pub returns-clause-refusal : goal.returns-clause-refusal
returns-clause-refusal c = group_walked _ c.args.trues.now.lits c.args.pivot c.args.named.now _ _
    c.in-Some.clause.now (sym c.in-Some.ensures) (grind arith) (grind arith) _
    c.neg-opposite.ensures _ _ c.refusal_of.ensures c.walk_group-end.ensures.end
