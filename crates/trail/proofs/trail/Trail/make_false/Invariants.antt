use Rattle.{std.proofs.Common.{false, length, take, ◌≡◌, ◌≤◌}, theory.specs.Sets.SameSet}
use Rattle.{theory.specs.Sets.conflicts, trail.proofs.TrailLemmas.MakesFalse.falsified}
use Rattle.trail.proofs.trail.Trail.make_false.Given as goal

abbrev pub invariant-loop-l : goal.invariant-loop-l
invariant-loop-l g l = record {
  added :
      SameSet l.self.lits
      (falsified l.fn.self.lits (g.P.Part.keeps l.part) (take l.l-index l.clause));
  quiet : conflicts l.self.lits ≡ false;
  begins : take (length l.fn.self.lits) l.self.lits ≡ l.fn.self.lits;
  longer : length l.fn.self.lits ≤ length l.self.lits;
  reserved : SameSet l.self.reserved l.fn.self.reserved;
}
