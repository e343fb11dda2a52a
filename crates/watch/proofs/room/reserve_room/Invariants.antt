use Rattle.{cnf_base.specs.Literals.{Literal, has}, std.proofs.Common.{take, true, ◌/◌, ◌≡◌}}
use Rattle.{tables.specs.ByKey.at, watch.specs.Code.State.{AddsRoom, HaveReasons}}
use Rattle.watch.proofs.room.reserve_room.Given as goal

abbrev pub invariant-loop-l : goal.invariant-loop-l
invariant-loop-l l = record {
  noted : HaveReasons l.assumptions.trail.reserved (at l.roots.reasons);
  room : (x : Literal) → has (take l.l-index l.lits) x ≡ true →
      has l.assumptions.trail.reserved (x / 2) ≡ true;
  more : AddsRoom l.fn.assumptions l.assumptions l.fn.roots l.roots;
}
