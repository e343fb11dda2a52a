use Rattle.{clause_db.specs.Code.LiteralMarks.is_marked, cnf_base.specs.Literals.{has, size}}
use Rattle.std.proofs.Common.{is_some, length, not, take, vec_capacity, ℕ, ◌&&◌, ◌≡◌}
use Rattle.tables.specs.ByKey.{at}
use Rattle.clause_db.proofs.store.marks.gather.Given as goal

abbrev pub invariant-loop-l : goal.invariant-loop-l
invariant-loop-l l = record {
  items : (k : ℕ) → has l.kept.items k ≡ has (take l.l-index l.lits) k;
  different : size l.kept.items ≡ length l.kept.items;
  marked : (k : ℕ) → is_marked (at l.marks k)
      ≡ (has l.lits k && not (has (take l.l-index l.lits) k));
  known : (k : ℕ) → is_some (at l.marks k) ≡ is_some (at l.fn.marks k);
  room : vec_capacity l.kept ≡ vec_capacity l.fn.kept;
}
