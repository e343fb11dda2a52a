use Rattle.{clause_index.specs.Hashes.mixed_sum, std.proofs.Common.{take, ◌≡◌}}
use Rattle.clause_index.proofs.hash.hash_of.Given as goal

abbrev pub invariant-loop-l : goal.invariant-loop-l
invariant-loop-l l = l.sum ≡ mixed_sum l.seed (take l.l-index l.lits)
