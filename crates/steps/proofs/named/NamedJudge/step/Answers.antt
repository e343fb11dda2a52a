use Rattle.std.proofs.Common.{OnOk, ap, length, subst, sym, ℕ}
use Rattle.steps.specs.{Code.Naming.under_names, Code.Naming.with_lits, Session.state_of}
use Rattle.{steps.proofs.StateLemmas.keeps_taken, theory.specs.Rules.IsSatisfiable}
use Rattle.steps.proofs.named.NamedJudge.step.Goals as goal

pub returns-clause-keeps_models : goal.returns-clause-keeps_models
returns-clause-keeps_models g c =
    let old = c.args.self.now in let new = c.step_numbered-answer.new in
    let before = λ (n : ℕ). state_of (under_names old.numbering n (g.J.Judge.held old.judge)) in
    let after = λ (n : ℕ). state_of (under_names new.numbering n (g.J.Judge.held new.judge)) in
    let answer = c.step_numbered-answer.result in
    rw (ap length c.clear.ensures.items)
    (subst (λ n. OnOk answer (IsSatisfiable (before n) → IsSatisfiable (after 0))) (sym (ap length c.requires.0.none_beside))
    (keeps_taken (before 0) (after 0) (with_lits c.args.lits.now c.args.step.now) answer c.step_numbered-answer.ensures.answers c.step_numbered-answer.ensures.state))

pub returns-clause-lost : goal.returns-clause-lost
returns-clause-lost g c =
    rw (ap length c.requires.0.none_beside) c.step_numbered-answer.ensures.lost
