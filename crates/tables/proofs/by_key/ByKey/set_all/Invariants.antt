-- Those before are written.
use Rattle.std.proofs.Common.{◌≡◌, ℕ, cond, length, take, Some}
use Rattle.tables.specs.ByKey.{at, is_of, value_in}
use Rattle.tables.proofs.by_key.ByKey.set_all.Given as goal

abbrev pub invariant-loop-l : goal.invariant-loop-l
invariant-loop-l g l = record {
  long : length l.near ≡ length l.fn.self.near.items;
  written : (k : ℕ) → value_in l.near l.far k ≡
      cond (is_of (take l.l-index l.lits) k) (Some l.value) (at l.fn.self k);
}
