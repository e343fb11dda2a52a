use Rattle.std.proofs.Common.{◌≡◌, ◌+◌, length, sym, ap, ◌∙◌, arith}
use Rattle.steps.proofs.NamingLemmas.{named_size}
use Rattle.steps.proofs.named.NamedJudge.literals.Goals as goal

pub returns-clause-live_alone : goal.returns-clause-live_alone
returns-clause-live_alone g c = λ ready.
    let held = g.J.Judge.held c.args.self.now.judge in
    let beside = length c.args.self.now.numbered.items in
    let none : beside ≡ 0 = ap length ready.0.none_beside in
    let same : held.stored + beside ≡ held.stored = omega arith in
    same ∙ c.literals.ensures.live_alone ready.1
    ∙ sym (named_size c.args.self.now.numbering held beside ready.0.given)
