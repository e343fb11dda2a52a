use Rattle.drat_steps.{proofs.DratLemmas.Candidates.Passed, specs.Code.Assumed.IsAsBefore}
use Rattle.{drat_steps.specs.Code.Candidates.HasClashed, std.proofs.Common.take}
use Rattle.drat_steps.proofs.candidates.Candidates.all_clash.Given as goal

abbrev pub invariant-loop-slot : goal.invariant-loop-slot
invariant-loop-slot g l = record {
  passed : Passed (g.P.Propagate.state l.fn.clauses) l.self (take l.slot-index l.slot-items);
  same : IsAsBefore (g.P.Propagate.state l.fn.clauses) (g.P.Propagate.state l.clauses);
  clashed : HasClashed (g.P.Propagate.state l.clauses) l.self l.last;
}
