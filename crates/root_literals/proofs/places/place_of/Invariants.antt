use Rattle.{cnf_base.specs.Literals.has, std.proofs.Common.{false, length, take, true, ◌≡◌, ◌≤◌}}
use Rattle.root_literals.proofs.places.place_of.Given as goal

abbrev pub invariant-loop-before : goal.invariant-loop-before
invariant-loop-before l = record {
  inside : l.behind ≤ length l.lits;
  low : l.before ≤ length l.lits;
  absent : has (take l.before l.lits) l.l ≡ false;
  there : has (take l.behind l.lits) l.l ≡ true;
}

abbrev pub decreases-loop-before : goal.decreases-loop-before
decreases-loop-before l = l.behind
