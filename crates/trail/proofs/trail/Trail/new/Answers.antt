use Rattle.std.{proofs.Common.{ap, arith, false, length, sym, ℕ, ◌≡◌}, specs.Vec.vec_capacity}
use Rattle.{tables.specs.ByKey.at, trail.proofs.TrailLemmas.Reserved.seen_none}
use Rattle.trail.{proofs.TrailLemmas.Values.trail_empty, specs.Code.Values.{reserved_in, seen_in}}
use Rattle.trail.proofs.trail.Trail.new.Goals as goal

pub invariant_of-result : goal.invariant_of-result
invariant_of-result c =
    let unseen : (v : ℕ) → seen_in c.new-2.result v ≡ false = grind arith in
    let none = seen_none (seen_in c.new-2.result) unseen 268435455 in (
      trail_empty c.new.result.items (reserved_in (seen_in c.new-2.result))
          (vec_capacity c.new.result) (seen_in c.new-2.result) (at c.new-3.result)
          c.new.ensures.items none unseen c.new-3.ensures,
      ap length (sym none),
      grind arith,
    )

pub returns-clause-reserved : goal.returns-clause-reserved
returns-clause-reserved c = seen_none (seen_in c.new-2.result) (grind arith) 268435455
