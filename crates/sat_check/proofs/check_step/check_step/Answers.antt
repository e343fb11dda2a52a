-- The step was refused, its line broke off, it is the last one, or the check goes on.
use Rattle.sat_check.proofs.ReportLemmas.{Stops-refused, Stops-traced, Stops-verified, was_refused}
use Rattle.std.proofs.Common.{arith, inl, inr, rules}
use Rattle.sat_check.proofs.check_step.check_step.Goals as goal

pub returns-in-Err-clause-stops : goal.returns-in-Err-clause-stops
returns-in-Err-clause-stops g c = Stops-refused c.args.trace c.args.number
    (g.S.ProofSession.shown c.args.session.now) c.args.step.now c.args.lines.now
    c.refuse.new.lines c.refuse.result c.in-Err.refusal
    (c.refuse.ensures.memory, c.in-Err.ensures.answers c.requires.sound) c.refuse.ensures.refused

pub returns-in-Err-write_trace-clause-stops : goal.returns-in-Err-write_trace-clause-stops
returns-in-Err-write_trace-clause-stops g c = let ok = c.in-Ok.ensures in
    let stopped = c.in-Err-write_trace.ensures.stopped in
    search (rules, arith, Stops-traced, ok.answers, ok.state, ok.peak, stopped)

pub returns-then-is_last-clause-stops : goal.returns-then-is_last-clause-stops
returns-then-is_last-clause-stops g c = let ok = c.in-Ok.ensures in
    Stops-verified c.args.trace c.args.number (g.S.ProofSession.shown c.args.session.now)
    c.args.step.now c.args.lines.now c.verify.new.lines c.verify.result
    (g.S.ProofSession.shown c.step.new.self) c.in-Ok.word (ok.answers c.requires.sound) ok.state
    ok.peak _ c.peak.result (search rules) c.peak.ensures c.in_default.ensures.wrote
    (c.in_default.ensures.whole c.requires.whole) c.verify.ensures.outcome

pub returns-in-Err-clause-decided : goal.returns-in-Err-clause-decided
returns-in-Err-clause-decided g c = λ v. inl (was_refused c.args.trace c.args.number
    (g.S.ProofSession.shown c.args.session.now) c.args.step.now c.args.lines.now
    c.refuse.new.lines c.refuse.result c.in-Err.refusal
    (c.refuse.ensures.memory, c.in-Err.ensures.answers c.requires.sound) v)

pub returns-in-Err-clause-refused : goal.returns-in-Err-clause-refused
returns-in-Err-clause-refused g c = λ is. was_refused c.args.trace c.args.number
    (g.S.ProofSession.shown c.args.session.now) c.args.step.now c.args.lines.now
    c.refuse.new.lines c.refuse.result c.in-Err.refusal
    (c.refuse.ensures.memory, c.in-Err.ensures.answers c.requires.sound) (inr is)
