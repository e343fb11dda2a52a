use Rattle.drat_steps.proofs.DratLemmas.Losses.{forced_now, has_clashed, no_clash_now, not_forced}
use Rattle.drat_steps.proofs.deletion.is_lost.Goals.{in-Clash, in-Quiet, in-True, in_default}
use Rattle.std.proofs.Common.{ap, arith, inr, not, sym, ◌∙◌}
use Rattle.{drat_steps.proofs.DratLemmas.Losses.forced_before, std.proofs.lemmas.Bool.false≢true}
use Rattle.{propagation.specs.Assumptions.assumed_by, std.proofs.lemmas.Bool.true≢false}
use Rattle.std.specs.FinMap as maps
use Rattle.drat_steps.proofs.deletion.is_lost.Goals as goal

pub returns-clause-yes : goal.returns-clause-yes
returns-clause-yes g c is f =
    let old = g.P.Propagate.state c.args.clauses.now in
    let now = g.P.Propagate.state c.assume.new.self in
    let idle = c.requires.nothing_assumed in
    elim c.match-branch-2.branch [
      | in-Clash w ↦ false≢true (sym w.is_lost-is ∙ is)
      | in-Quiet w ↦ elim w.match-matches.branch [
        | in-True v ↦ false≢true (ap not (sym v.matches-is) ∙ (sym w.is_lost-is ∙ is))
        | in_default v ↦
            not_forced (maps.get now.live) (assumed_by now.assumptions) c.args.l w.value.result
            (no_clash_now old now _ idle c.in_ok-assume.ensures.assumed w.in-Quiet.is)
            w.value.ensures v.in_default.not-True
            (forced_now old now _ idle c.in_ok-assume.ensures.assumed w.in-Quiet.is c.args.l f)
      ]
    ]

pub returns-clause-no : goal.returns-clause-no
returns-clause-no g c is =
    let old = g.P.Propagate.state _ in let now = g.P.Propagate.state _ in
    let idle = c.requires.nothing_assumed in
    elim c.match-branch-2.branch [
      | in-Clash w ↦ inr (has_clashed old now _ idle c.in_ok-assume.ensures.assumed w.in-Clash.is)
      | in-Quiet w ↦ grind (arith, in-True, forced_before, in_default, true≢false)
    ]
