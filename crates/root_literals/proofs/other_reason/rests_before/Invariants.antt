use Rattle.std.proofs.Common.{◌≡◌, ◌≢◌, true, take, slice_index}
use Rattle.cnf_base.specs.Literals.{Literal, complement, has}
use Rattle.root_literals.proofs.other_reason.rests_before.Given as goal

abbrev pub invariant-loop-k : goal.invariant-loop-k
invariant-loop-k l = record {
  member : l.is_member ≡ true → has l.clause (slice_index l.lits l.place) ≡ true;
  others : (x : Literal) → has (take l.k-index l.clause) x ≡ true →
      x ≢ slice_index l.lits l.place → has (take l.place l.lits) (complement x) ≡ true;
}
