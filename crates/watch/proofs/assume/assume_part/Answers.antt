use Rattle.{cnf_base.specs.Literals.complements, std.proofs.Common.{arith, filter, refl, sym, ◌∙◌}}
use Rattle.propagation.proofs.PropagationLemmas.{Exact.{begins_on, longer_from}, Scan.part_exact}
use Rattle.propagation.proofs.PropagationLemmas.Scan.{assumed_none, part_answer, part_clashes}
use Rattle.propagation.{proofs.PropagationLemmas.Scan.scan_after, specs.Code.Closure.AreForced}
use Rattle.root_literals.proofs.RootLemmas.{Carried.kept_clash, Reasons.reasoned_forced}
use Rattle.{root_literals.specs.Order.each_in_order, watch.specs.Code.ClauseSource.clause_of}
use Rattle.{std.proofs.Common.[], watch.proofs.WatchLemmas.State.{watch_answered, watch_undone}}
use Rattle.{std.proofs.lemmas.Bool.false≢true, theory.proofs.PropagationLemmas.Forced.clash_through}
use Rattle.std.specs.FinMap as maps
use Rattle.watch.proofs.assume.assume_part.Goals as goal

pub returns-in_err-assume_from-clause-assumed : goal.returns-in_err-assume_from-clause-assumed
returns-in_err-assume_from-clause-assumed g c = grind (arith, assumed_none)

pub returns-then-branch-clause-assumed : goal.returns-then-branch-clause-assumed
returns-then-branch-clause-assumed g c = let e = c.in_ok-assume_from.ensures in record {
  answer = part_clashes _ _ (λ ls forced. forced) _ c.assume_from.new.assumptions _
      c.requires.may c.requires.watch.scan (sym e.conflict ∙ c.if-branch.true);
  stands = grind arith;
  stays = tt;
}

pub returns-then-has_conflict-clause-assumed : goal.returns-then-has_conflict-clause-assumed
returns-then-has_conflict-clause-assumed g c = let live = c.args.store.now.live in
    let kept = c.requires.watch.kept in record {
      answer = clash_through (maps.get (each_in_order live)) [] _ (λ a h. absurd (false≢true h)) (kept_clash _ _ _ (grind arith) (reasoned_forced _ _ _ kept.reasoned) kept.known);
      stands = grind arith;
      stays = tt;
    }

pub returns-in-Ok : goal.returns-in-Ok
returns-in-Ok g c = let live = c.args.store.now.live in let shown = each_in_order live in
    let before = c.args.assumptions.now in let after = c.assume_from.new.assumptions in
    let found = c.run.new.assumptions in let last = c.answer.new.self in
    let answer = c.in-Ok.answer in
    let added = complements (filter (g.P.Part.keeps c.args.part.now) (clause_of live c.args.source.now)) in
    let e = c.in_ok-assume_from.ensures in let p = c.in-Ok.ensures in let f = p.followed in
    let extends = f.propagates.extends in let all = e.assumed.0 in
    let same = simp c.if-branch.false at e.added in
    let alike = simp c.if-branch.false at e.assumed.2 in
    let stand = c.answer.ensures.assumptions _ _ (extends.assumptions ∙ e.assumed.1) in
    let starts = c.answer.ensures.starts ∙ extends.starts ∙ e.starts in
    let begins = begins_on before.trail.lits after.trail.lits found.trail.lits e.begins (grind (arith, longer_from)) extends.begins in record {
      assumed = grind (arith, part_answer);
      watch =
          watch_answered _ _ _ _ _ _ _ _ _ _ c.requires.watch f refl e.begins c.requires.up_to_date last answer all c.answer.ensures.trail stand starts p.watched
          (grind arith)
          (scan_after shown (AreForced (maps.get shown)) (λ ls forced. forced) before after added c.requires.may c.requires.watch.scan last answer all stand starts
          (grind arith) (grind arith)
          (λ quiet. simp c.answer.ensures.trail
          (part_exact shown (AreForced (maps.get shown)) (λ ls forced. forced) before after added c.requires.may c.requires.watch.scan same all found.trail.lits alike extends.begins f.propagates.sound (p.closed quiet))));
      same = f.propagates.same;
      slots = c.run.ensures.slots;
    }

pub returns-in-Err : goal.returns-in-Err
returns-in-Err g c = let e = c.in_ok-assume_from.ensures in let f = c.in-Err.ensures.followed in
    let extends = f.propagates.extends in let u = c.undo.ensures in record {
      assumed = grind arith;
      watch =
          watch_undone _ _ _ _ _ _ _ _ _ _ c.requires.watch f refl e.begins
          c.undo.new.self _ (extends.assumptions ∙ e.assumed.1) (extends.starts ∙ e.starts) u.assumptions u.starts u.lits (grind arith);
      same = f.propagates.same;
      slots = c.run.ensures.slots;
    }
