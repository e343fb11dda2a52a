use Rattle.{clause_db.specs.Code.LiteralMarks.is_marked, cnf_base.specs.Literals.has}
use Rattle.{std.proofs.Common.{drop, is_some, true, ℕ, ◌≡◌}, tables.specs.ByKey.at}
use Rattle.clause_db.proofs.store.marks.unmark_all.Given as goal

abbrev pub invariant-loop-l : goal.invariant-loop-l
invariant-loop-l l = record {
  marked : (k : ℕ) → is_marked (at l.marks k) ≡ true → has (drop l.l-index l.lits) k ≡ true;
  known : (k : ℕ) → is_some (at l.marks k) ≡ is_some (at l.fn.marks k);
}
