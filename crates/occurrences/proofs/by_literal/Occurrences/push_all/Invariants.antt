use Rattle.{cnf_base.specs.Literals.has, occurrences.specs.Occurrences.occurs}
use Rattle.std.proofs.Common.{take, ℕ, ◌&&◌, ◌==◌, ◌||◌, ◌≡◌}
use Rattle.occurrences.proofs.by_literal.Occurrences.push_all.Given as goal

abbrev pub invariant-loop-l : goal.invariant-loop-l
invariant-loop-l l = record {
  occurs : (k s : ℕ) → occurs l.self k s
      ≡ (occurs l.fn.self k s || (has (take l.l-index l.lits) k && s == l.slot));
  births : l.self.births ≡ l.fn.self.births;
}
