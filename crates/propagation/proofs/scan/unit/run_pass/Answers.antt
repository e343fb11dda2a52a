use Rattle.{cnf_base.specs.Literals.has, trail.specs.{Code.Left.IsSettled, Left.how_many}}
use Rattle.propagation.proofs.PropagationLemmas.Exact.{extends_made, extends_on}
use Rattle.propagation.proofs.PropagationLemmas.Passes.{passed_none, passed_settled, passed_unit}
use Rattle.propagation.proofs.scan.unit.run_pass.Goals.{in-Some+in-More}
use Rattle.propagation.proofs.scan.unit.run_pass.Goals.{in-Some+in-One+else-make_true}
use Rattle.propagation.proofs.scan.unit.run_pass.Goals.{in-Some+in-One+then-make_true, in_default}
use Rattle.std.proofs.Common.{[], arith, subst, sym, true, ◌++◌, ◌/◌, ◌∙◌, ◌∷◌, ◌≡◌}
use Rattle.{std.proofs.lemmas.Bool.{not-false, not-true}, theory.specs.Propagation.open_literals}
use Rattle.theory.proofs.PropagationLemmas.Unit.{left_is_forced, none_left_clashes}
use Rattle.trail.proofs.TrailLemmas.{Left.{left_open, nothing_is, one_is}, Longer.pushed_each}
use Rattle.propagation.proofs.scan.unit.run_pass.Goals as goal

pub returns-in-Nothing-clause-pass : goal.returns-in-Nothing-clause-pass
returns-in-Nothing-clause-pass c =
    none_left_clashes _ _ _ c.loop-number.invariant.sound _ _ (sym c.in-Some.ensures)
    (nothing_is _ (sym (simp c.trail.ensures at c.in-Nothing.ensures)))

pub make_true-requires-clause-reserved : goal.make_true-requires-clause-reserved
make_true-requires-clause-reserved c =
    let of_clause = left_open _ _ _ (simp c.trail.ensures at c.in-One.ensures) in
    let room = c.requires.each _ _ (sym c.in-Some.ensures) _ of_clause.0 in grind arith

pub make_true-requires-clause-not_false : goal.make_true-requires-clause-not_false
make_true-requires-clause-not_false c =
    (left_open _ _ _ (simp c.trail.ensures at c.in-One.ensures)).1

pub loop-number-preserved : goal.loop-number-preserved
loop-number-preserved c =
    let lits = c.loop-number.assumptions.trail.lits in let so_far = c.loop-number.invariant in
    elim c.match-at.branch [
      | in-Some+in-One+then-make_true w ↦
          let m = w.in-One.l in let left = simp w.trail.ensures at w.in-One.ensures in
          let of_clause = left_open _ _ _ left in let at = sym w.in-Some.ensures in
          let room : has c.args.assumptions.now.trail.reserved (m / 2) ≡ true = c.requires.each _ _ at _ of_clause.0 in
          let forced = left_is_forced _ _ _ so_far.sound _ _ at _ (one_is _ _ (sym left)) in
          let e = w.make_true.ensures in
          let lits_are : w.make_true.new.self.trail.lits ≡ lits ++ m ∷ [] = simp w.if-make_true.true at e.lits in
          let open_m = not-true (has lits m) (sym e.was_open ∙ w.if-make_true.true) in
          rw (w.assumptions-is, w.found-is) (record {
            sound = simp lits_are (pushed_each _ _ _ so_far.sound forced);
            passed = simp lits_are (passed_unit _ _ _ _ _ open_m of_clause.1 room _ so_far.passed);
            extends = extends_on _ _ _ so_far.extends (extends_made _ _ _ _ e.was_open e.lits e.reserved e.assumptions e.starts);
          })
      | in-Some+in-One+else-make_true w ↦
          let left = simp w.trail.ensures at w.in-One.ensures in let e = w.make_true.ensures in
          let true_m = not-false (has lits w.in-One.l) (sym e.was_open ∙ w.if-make_true.false) in
          let settled : IsSettled lits (how_many (open_literals lits w.in-Some.clause.now)) = subst (IsSettled lits) left true_m in
          let lits_are : w.make_true.new.self.trail.lits ≡ lits = simp w.if-make_true.false at e.lits in
          rw (w.assumptions-is, w.found-is) (record {
            sound = simp lits_are so_far.sound;
            passed = simp lits_are (passed_settled _ _ _ _ _ w.in-Some.ensures settled _ so_far.passed);
            extends = extends_on _ _ _ so_far.extends (extends_made _ _ _ _ e.was_open e.lits e.reserved e.assumptions e.starts);
          })
      | in-Some+in-More w ↦
          let left = simp w.trail.ensures at w.in-More.ensures in
          let settled : IsSettled lits (how_many (open_literals lits w.in-Some.clause.now)) = subst (IsSettled lits) left tt in
          rw (w.assumptions-is, w.found-is) (record {
            sound = so_far.sound;
            passed = passed_settled _ _ _ _ _ w.in-Some.ensures settled _ so_far.passed;
            extends = so_far.extends;
          })
      | in_default w ↦ rw (w.assumptions-is, w.found-is) (grind (arith, passed_none))
    ]
