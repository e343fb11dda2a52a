use Rattle.{propagation.proofs.PropagationLemmas.Levels.NotesTo, std.proofs.Common.{is_some, ℕ}}
use Rattle.{std.proofs.Common.◌≡◌, tables.specs.ByKey.at, trail.specs.Numbers.number_at}
use Rattle.propagation.proofs.assumptions.note_all.Given as goal

abbrev pub invariant-loop-l : goal.invariant-loop-l
invariant-loop-l g l = record {
  notes :
      NotesTo l.first l.number l.clause (g.P.Part.keeps l.part) l.l-index (number_at l.fn.numbers)
      (number_at l.numbers);
  known : (v : ℕ) → is_some (at l.numbers v) ≡ is_some (at l.fn.numbers v);
}
