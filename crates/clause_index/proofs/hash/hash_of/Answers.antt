use Rattle.clause_index.proofs.IndexLemmas.Hashes.{hash_whole, mixed_more, mixed_none}
use Rattle.{cnf_base.proofs.SizeLemmas.distinct_before, std.proofs.Common.{arith, sym}}
use Rattle.clause_index.proofs.hash.hash_of.Goals as goal

pub loop-l-init : goal.loop-l-init
loop-l-init c = sym (mixed_none c.args.seed)

pub loop-l-preserved : goal.loop-l-preserved
loop-l-preserved c = grind (arith, mixed_more, distinct_before)

pub returns : goal.returns
returns c = grind (arith, hash_whole)
