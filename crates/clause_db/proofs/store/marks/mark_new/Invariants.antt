use Rattle.{clause_db.specs.Code.LiteralMarks.is_marked, cnf_base.specs.Literals.{has, size}}
use Rattle.{std.proofs.Common.{IsSome, take, true, ℕ, ◌≡◌, ◌≤◌}, tables.specs.ByKey.at}
use Rattle.clause_db.proofs.store.marks.mark_new.Given as goal

abbrev pub invariant-loop-l : goal.invariant-loop-l
invariant-loop-l l = record {
  marked : (k : ℕ) → is_marked (at l.marks k) ≡ has (take l.l-index l.lits) k;
  still_known : (k : ℕ) → IsSome (at l.fn.marks k) → IsSome (at l.marks k);
  known : (k : ℕ) → has (take l.l-index l.lits) k ≡ true → IsSome (at l.marks k);
  len_is : l.len ≡ size (take l.l-index l.lits);
  few : l.len ≤ l.l-index;
}
