use Rattle.{cnf_base.specs.Literals.has, steps.proofs.LratLemmas.{named_kept, when_none}}
use Rattle.std.proofs.Common.{ap, arith, drop, eqb, length, rules, sym, ℕ, ◌+◌, ◌<◌, ◌||◌, ◌∙◌, ◌≡◌}
use Rattle.{std.proofs.lemmas.List.take_rest, theory.specs.Lrat.{group_refusal, units_of}}
use Rattle.steps.proofs.LratLemmas.{groups_go_on, groups_more, groups_pass_over, held_grow}
use Rattle.steps.proofs.{LratLemmas.named_grows, lrat.candidates.judge_groups.Goals.else-hint-lt0}
use Rattle.steps.proofs.lrat.candidates.judge_groups.Goals.{then-hint-lt0+in_ok-refusal+else-is_some}
use Rattle.std.specs.FinMap as maps
use Rattle.steps.proofs.lrat.candidates.judge_groups.Goals as goal

pub loop-i-preserved : goal.loop-i-preserved
loop-i-preserved c =
    let live = maps.get c.args.live.now.live in let hints = c.args.hints.now in
    let i = c.loop-i.i in let inside : i < length hints = omega arith in
    let named = c.loop-i.named in
    elim c.if-hint-lt0.branch [
      | then-hint-lt0+in_ok-refusal+else-is_some w ↦
          let k = w.unsigned_abs.result in let after = c.if-hint-lt0.named in
          let refusal = w.in_ok-refusal.refusal in
          let none = sym w.is_some.ensures ∙ w.if-is_some.false in
          let more : (j : ℕ) → has after j ≡ has named j || eqb k j = λ j. ap (λ n. has n j) w.named-is ∙ when_none refusal _ none w.in_ok-refusal.ensures.named j in
          let is = w.in_ok-refusal.ensures.refusal ∙ ap (λ r. group_refusal live c.loop-i.trues.lits c.args.pivot named (record { candidate = k; hints = units_of r }) (live k)) (take_rest hints (i + 1)) ∙ ap (λ ls. group_refusal live ls c.args.pivot named (record { candidate = k; hints = units_of (drop (i + 1) hints) }) (live k)) c.loop-i.invariant.lits in
          record {
            refusal = search (rules, arith, groups_go_on);
            named = search (rules, arith, named_grows);
            hold = grind (arith, held_grow, when_none);
            lits = grind arith;
            reserved = grind arith;
          }
      | else-hint-lt0 w ↦ grind (arith, groups_pass_over, named_kept)
    ]

pub returns-then-is_some-clause-refusal : goal.returns-then-is_some-clause-refusal
returns-then-is_some-clause-refusal c = grind (arith, take_rest, groups_more)
