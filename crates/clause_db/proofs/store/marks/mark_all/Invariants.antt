use Rattle.clause_db.{proofs.StoreLemmas.Marks.IsDigest, specs.Code.LiteralMarks.is_marked}
use Rattle.{cnf_base.specs.Literals.has, std.proofs.Common.{is_some, take, ℕ, ◌≡◌}}
use Rattle.tables.specs.ByKey.{at}
use Rattle.clause_db.proofs.store.marks.mark_all.Given as goal

abbrev pub invariant-loop-l : goal.invariant-loop-l
invariant-loop-l l = record {
  marked : (k : ℕ) → is_marked (at l.marks k) ≡ has (take l.l-index l.lits) k;
  known : (k : ℕ) → is_some (at l.marks k) ≡ is_some (at l.fn.marks k);
  digest : IsDigest l.seed l.lits l.l-index l.len l.sum;
}
