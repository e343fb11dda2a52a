use Rattle.{clause_db.proofs.StoreLemmas.Tautologies.none_so_far, std.proofs.Common.arith}
use Rattle.cnf_base.proofs.{SetLemmas.any_from, SizeLemmas.has_at, WalkLemmas.has_take}
use Rattle.clause_db.proofs.store.marks.few_have_complements.Goals as goal

pub loop-i-preserved : goal.loop-i-preserved
loop-i-preserved c = grind (arith, none_so_far)

pub returns-then-is_among : goal.returns-then-is_among
returns-then-is_among c = grind (arith, any_from, has_at, has_take)
