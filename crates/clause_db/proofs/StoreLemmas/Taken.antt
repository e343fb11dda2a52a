-- A clause that the memory took in.
use Rattle.{clause_db.specs.Code.Fields.IsTakenIn, clause_memory.specs.Memory.MemoryState}
use Rattle.cnf_base.{proofs.MapLemmas.len_with, specs.Literals.{Clause, same_clause, size}}
use Rattle.std.proofs.Common.{IfOk, None, Result, arith, length, true, ℕ, ◌<◌, ◌≡◌, ◌≤◌}
use Rattle.std.specs.FinMap as maps
use Rattle.clause_memory.specs.Memory as memory

-- what the memory says of a clause that it takes
pub taken_in : {E : Type 0} (r : Result ℕ E) (m n : MemoryState) (lits x : Clause)
    → same_clause x lits ≡ true → size x ≡ length x → length x < 18446744073709551616
    → IfOk r (λ slot. maps.get m.live slot ≡ None)
    → IfOk r (λ slot. n.live ≡ maps.insert m.live slot x) → IfOk r (λ slot. slot < 4294967295)
    → maps.len n.live ≤ 4294967295 → n.stored ≡ memory.literals_in n.live
    → IfOk r (λ slot. IsTakenIn m n slot lits)
taken_in r m n lits x same different short free live low few stored = grind (arith, len_with)
