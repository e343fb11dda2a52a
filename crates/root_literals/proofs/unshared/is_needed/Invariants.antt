use Rattle.{cnf_base.specs.Literals.{Clause, complement, has}, std.proofs.Common.{Some, false}}
use Rattle.{std.proofs.Common.{slice_index, ℕ, ◌<◌, ◌≡◌}, tables.specs.ByKey.at}
use Rattle.std.specs.FinMap as maps
use Rattle.root_literals.proofs.unshared.is_needed.Given as goal

abbrev pub invariant-loop-behind : goal.invariant-loop-behind
invariant-loop-behind l = record {
  unneeded : (q s : ℕ) (c : Clause) → l.place < q → q < l.behind →
      at l.reasons (slice_index l.lits q) ≡ Some s → maps.get l.store.live s ≡ Some c →
      has c (complement l.l) ≡ false;
}
