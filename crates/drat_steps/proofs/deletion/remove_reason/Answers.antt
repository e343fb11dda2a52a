use Rattle.drat_steps.proofs.DratLemmas.Losses.{forced_before, forced_now, has_clashed, if_ok_both}
use Rattle.drat_steps.proofs.DratLemmas.Losses.{is_quiet, loses_held, loses_nothing}
use Rattle.drat_steps.proofs.DratLemmas.{Losses.{loses_past_clash, no_clash_now}, Terms.Clauses}
use Rattle.std.proofs.Common.{IfOk, [], ap, arith, false, subst, true, ◌∙◌, ◌≡◌, ◌⊎◌}
use Rattle.{std.proofs.lemmas.Bool.false≢true, theory.specs.Propagation.{Clash, Forced}}
use Rattle.std.specs.FinMap as maps
use Rattle.drat_steps.proofs.deletion.remove_reason.Goals as goal

pub returns-in-Clash-clause-loses : goal.returns-in-Clash-clause-loses
returns-in-Clash-clause-loses g c d lits there same =
    let old = g.P.Propagate.state c.args.clauses.now in
    loses_past_clash old.live c.args.slot d lits there same
    (has_clashed old _ _ c.requires.idle.nothing_assumed c.in_ok-assume.ensures.assumed
    c.in-Clash.is)
    (c.requires.reason d there)

pub true_literal-held-requires-clause-no_clash :
    goal.true_literal-held-requires-clause-no_clash
true_literal-held-requires-clause-no_clash g c =
    no_clash_now _ _ _ c.requires.idle.nothing_assumed c.in_ok-assume.ensures.assumed
    c.in_default.is

pub returns-in-Some-clause-loses : goal.returns-in-Some-clause-loses
returns-in-Some-clause-loses g c =
    let old = g.P.Propagate.state c.args.clauses.now in
    let slot = c.args.slot in let l = c.in-Some.l in
    let assumed = c.in_ok-assume.ensures.assumed in
    let idle = c.requires.idle.nothing_assumed in let is = c.in_default.is in
    let gone = c.remove-2.ensures.live
    ∙ ap (λ m. maps.remove m slot) (c.undo-2.ensures.live ∙ assumed.live) in
    let Lost = λ (m : Clauses).
    IfOk c.is_lost.result (λ b. b ≡ true → ¬ Forced (maps.get m) [] l) in
    let Stays = λ (m : Clauses). IfOk c.is_lost.result
    (λ b. b ≡ false → Forced (maps.get m) [] l ⊎ Clash (maps.get m) []) in
    if_ok_both c.is_lost.result _ _ _
    (λ lost is_lost stays d lits there same.
    loses_held old.live slot d lits there same (is_quiet old _ _ idle assumed is) l
    (c.in-Some.ensures.member d (ap (λ m. maps.get m slot) assumed.live ∙ there))
    (forced_before old _ _ idle assumed is l c.in-Some.ensures.found)
    lost is_lost stays)
    (subst Lost gone c.is_lost.ensures.yes) (subst Stays gone c.is_lost.ensures.no)

pub returns-in-None-clause-loses : goal.returns-in-None-clause-loses
returns-in-None-clause-loses g c d lits there same =
    let old = g.P.Propagate.state _ in
    let assumed = c.in_ok-assume.ensures.assumed in
    let shown = ap (λ m. maps.get m c.args.slot) assumed.live ∙ there in (
      λ h. absurd (false≢true h),
      λ loses. absurd (loses_nothing old.live c.args.slot d lits there same
          (is_quiet old _ _ c.requires.idle.nothing_assumed assumed c.in_default.is)
          (grind (arith, forced_now)) loses),
    )
