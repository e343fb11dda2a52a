use Rattle.{drat_steps.specs.Code.Candidates.is_left, std.proofs.Common.{filter, take, ◌≡◌}}
use Rattle.drat_steps.proofs.candidates.Clashed.note.Given as goal

abbrev pub invariant-loop-l : goal.invariant-loop-l
invariant-loop-l l = l.self.rest.items ≡ filter (is_left l.candidates) (take l.l-index l.clause)
