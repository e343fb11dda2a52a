-- The clause is no candidate, has all that is left of one that clashed, or is tried.
use Rattle.drat_steps.proofs.DratLemmas.Candidates.{clashed_now, clashes_seen, clashes_within}
use Rattle.std.proofs.Common.{arith, sym, ◌∙◌}
use Rattle.{drat_steps.proofs.DratLemmas.Candidates.looked_at, std.proofs.lemmas.Bool.false≢true}
use Rattle.drat_steps.proofs.candidates.Candidates.passes.Goals as goal

pub returns-then-not-includes-clause-passes : goal.returns-then-not-includes-clause-passes
returns-then-not-includes-clause-passes g c =
    elim c.then-not-includes.branch [
      | goal.then-not-includes-via-then-not-includes w ↦ λ d at test.
          absurd (false≢true (sym w.if-not-includes.true
          ∙ sym (looked_at _ _ _ _ c.clause-clause.ensures.clause c.includes.ensures _ at) ∙ test))
      | goal.then-not-includes-via-else-not-includes+in_ok-is_within+then-branch w ↦
          clashes_within _ _ _ _ c.clause-clause.ensures.clause _ c.requires.clashed (grind arith)
    ]

pub returns-in_ok-note-in-Clash-clause-passes : goal.returns-in_ok-note-in-Clash-clause-passes
returns-in_ok-note-in-Clash-clause-passes g c = λ d at _.
    rw c.in-Clash.is at (c.in_ok-answer_with.ensures.answer d at)

pub returns-in_ok-note-in-Clash-clause-clashed : goal.returns-in_ok-note-in-Clash-clause-clashed
returns-in_ok-note-in-Clash-clause-clashed g c =
    clashed_now (g.P.Propagate.state c.args.clauses.now) c.args.self.now _ c.clause.result.now
    (grind arith)
    (λ d at. rw c.in-Clash.is at (c.in_ok-answer_with.ensures.answer d at))
    _ c.in_ok-note-in-Clash.ensures

pub returns-in-Quiet-clause-passes : goal.returns-in-Quiet-clause-passes
returns-in-Quiet-clause-passes g c d at =
    (grind (arith, looked_at), rw c.in-Quiet.is at (c.in_ok-answer_with.ensures.answer d at))

pub returns-then-clashes_at_once-clause-passes : goal.returns-then-clashes_at_once-clause-passes
returns-then-clashes_at_once-clause-passes g c =
    let now = g.P.Propagate.state _ in
    clashes_seen now _ c.args.slot _ c.clause-clause.ensures.clause
    (c.clashes_at_once.ensures c.if-clashes_at_once.true)
