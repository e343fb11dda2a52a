use Rattle.root_literals.proofs.RootLemmas.Carried.{all_closed, all_quiet, clash_from, units_kept}
use Rattle.{std.proofs.Common.arith, trail.proofs.TrailLemmas.Longer.has_begun}
use Rattle.watch.proofs.run.run.Goals as goal

pub returns-in-Some-clause-answer : goal.returns-in-Some-clause-answer
returns-in-Some-clause-answer c =
    clash_from _ _ _ _ _ _ c.propagate.ensures.followed.propagates c.in-Some.field-0 (grind arith)

pub returns-in-None : goal.returns-in-None
returns-in-None c = let held = c.args.assumptions.now in let after = c.propagate.new.store.live in
    let trues = c.propagate.new.assumptions.trail.lits in let f = c.propagate.ensures.followed in
    let e = f.propagates in
    let units = units_kept _ _ _ _ _ _ e c.requires.units in
    let watched = simp c.in-None.is at c.in_ok-found.ensures.watched in
    let quiet = simp c.in-None.is at c.in_ok-found.ensures.quiet in
    let different = c.recall_invariant.ensures.different in record {
      answer = λ clash. all_quiet after trues different units watched quiet held.trail.lits (λ l h. has_begun held.trail.lits trues l e.extends.begins h) (simp e.same clash);
      closed = λ _. simp e.same at (all_closed after trues different units watched quiet);
      watched = λ _. watched;
      followed = f;
      slots = c.propagate.ensures.slots;
    }
