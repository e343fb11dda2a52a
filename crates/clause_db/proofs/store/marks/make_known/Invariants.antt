use Rattle.{clause_db.specs.Code.LiteralMarks.is_marked, cnf_base.specs.Literals.has}
use Rattle.{std.proofs.Common.{IsSome, take, true, ℕ, ◌≡◌}, tables.specs.ByKey.at}
use Rattle.clause_db.proofs.store.marks.make_known.Given as goal

abbrev pub invariant-loop-l : goal.invariant-loop-l
invariant-loop-l l = record {
  known : (k : ℕ) → has (take l.l-index l.lits) k ≡ true → IsSome (at l.marks k);
  still_known : (k : ℕ) → IsSome (at l.fn.marks k) → IsSome (at l.marks k);
  marks : (k : ℕ) → is_marked (at l.marks k) ≡ is_marked (at l.fn.marks k);
}
