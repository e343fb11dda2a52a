use Rattle.clause_index.{proofs.IndexLemmas.Walks.IsLeft, specs.Code.Chains.AreLinked}
use Rattle.{cnf_base.specs.Literals.{has, size}, std.proofs.Common.{List, length, true, ℕ, ◌≡◌}}
use Rattle.clause_index.proofs.chains.before.Given as goal

abbrev pub invariant-loop-step : goal.invariant-loop-step
invariant-loop-step l = record {
  other : l.at ≡ l.slot → ⊥;
  left : (chain : List ℕ) → AreLinked l.links l.first chain → size chain ≡ length chain
      → has chain l.slot ≡ true → IsLeft l.links chain l.slot l._step l.at;
}
