use Rattle.{std.proofs.Common.{take, ◌≤◌}, theory.specs.Propagation.open_literals}
use Rattle.trail.specs.Code.Left.{IsCount}
use Rattle.trail.proofs.dense.Dense.count_open.Given as goal

abbrev pub invariant-loop-l : goal.invariant-loop-l
invariant-loop-l l = record {
  counted : IsCount (open_literals l.self.lits (take l.l-index l.clause)) l.count l.last;
  few : l.count ≤ l.l-index;
}
