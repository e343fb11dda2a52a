-- A literal of the rest is true, and so forced; its complement is assumed.
use Rattle.{cnf_base.proofs.WalkLemmas.is_in, propagation.specs.Assumptions.assumed_by}
use Rattle.{drat_steps.proofs.DratLemmas.Candidates.clashes_by_true, std.proofs.Common.{arith, sym}}
use Rattle.drat_steps.proofs.candidates.Candidates.clashes_at_once.Goals.{in-True, in_default}
use Rattle.{std.proofs.{Common.◌∙◌, lemmas.Bool.false≢true}, theory.specs.Propagation.Forced}
use Rattle.drat_steps.proofs.candidates.Candidates.clashes_at_once.Goals as goal
use Rattle.std.specs.FinMap as maps

pub returns-then-is_left : goal.returns-then-is_left
returns-then-is_left g c _ =
    let state = g.P.Propagate.state c.args.clauses.now in
    let l = c.l-item.result in
    let assumed = assumed_by state.assumptions in
    let forced : Forced (maps.get state.live) assumed l = elim c.match-matches.branch [
      | in-True w ↦ grind arith
      | in_default w ↦ absurd (false≢true (sym w.matches-is ∙ c.if-matches.true))
    ] in
    clashes_by_true (maps.get state.live) assumed c.args.self.now c.args.clause.now l
    (is_in c.args.clause.now c.loop-l.l-index c.loop-l-test.true l c.l-item.is)
    (sym c.is_left.ensures ∙ c.if-is_left.true) forced
