use Rattle.{cnf_base.specs.Literals.{Clause, has}, std.proofs.Common.{length, take, true, ℕ, ◌≡◌}}
use Rattle.{propagation.specs.Code.Closure.{AreForced, TakesIn}, std.proofs.Common.Some}
use Rattle.std.specs.FinMap as maps
use Rattle.propagation.proofs.closure.take_each.Given as goal

abbrev pub invariant-loop-slot : goal.invariant-loop-slot
invariant-loop-slot g l = record {
  sound : AreForced (maps.get l.store.live) l.found;
  begins : take (length l.fn.found) l.found ≡ l.fn.found;
  takes : (s : ℕ) (c : Clause) → has (take l.slot-index l.slots) s ≡ true →
      maps.get l.store.live s ≡ Some c → TakesIn l.fn.found l.found c;
}
