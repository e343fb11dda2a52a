use Rattle.{cnf_base.specs.Literals.Clause, propagation.specs.Code.Closure.{AreForced, TakesIn}}
use Rattle.std.proofs.Common.{Some, length, take, ℕ, ◌<◌, ◌≡◌}
use Rattle.std.specs.FinMap as maps
use Rattle.propagation.proofs.closure.take_all.Given as goal

abbrev pub invariant-loop-number : goal.invariant-loop-number
invariant-loop-number g l = record {
  sound : AreForced (maps.get l.store.live) l.found;
  begins : take (length l.fn.found) l.found ≡ l.fn.found;
  takes : (k : ℕ) (c : Clause) → k < l.number → maps.get l.store.live k ≡ Some c →
      TakesIn l.fn.found l.found c;
}
