use Rattle.cnf_base.{proofs.LiteralLemmas.complement-complement, specs.Literals.{complement, has}}
use Rattle.std.proofs.Common.{[], ap, arith, length, length-append, refl, sym, take, ◌++◌, ◌∙◌, ◌∷◌}
use Rattle.{std.proofs.lemmas.List.take_all, theory.proofs.PropagationLemmas.Conflicts.quiet_push}
use Rattle.{theory.specs.Sets.conflicts, trail.proofs.TrailLemmas.Longer.begins_push}
use Rattle.trail.proofs.TrailLemmas.MakesFalse.{falsified, falsified_conflict, falsified_next}
use Rattle.trail.proofs.TrailLemmas.MakesFalse.{falsified_none, falsified_same, no_conflict}
use Rattle.trail.proofs.TrailLemmas.{MakesFalse.{same_old, same_pushed}, Truth.false_from_value}
use Rattle.trail.proofs.TrailLemmas.Truth.{open_from_value, true_from_value}
use Rattle.trail.proofs.trail.Trail.make_false.Goals.{else-keeps_literal}
use Rattle.trail.proofs.trail.Trail.make_false.Goals.{then-keeps_literal+in-False}
use Rattle.trail.proofs.trail.Trail.make_false.Goals.{then-keeps_literal+in-Open}
use Rattle.trail.proofs.trail.Trail.make_false.Goals as goal

pub loop-l-init : goal.loop-l-init
loop-l-init g c =
    let lits = c.args.self.now.lits in
    record {
      added = λ l. ap (λ ls. has ls l) (sym (falsified_none lits (g.P.Part.keeps c.args.part.now) c.args.clause.now));
      quiet = grind (arith, no_conflict);
      begins = take_all _ lits (omega arith);
      longer = omega arith;
      reserved = λ v. refl;
    }

pub returns-in-True-clause-made : goal.returns-in-True-clause-made
returns-in-True-clause-made g c =
    let x = c.l-item.result in let lits = c.loop-l.self.lits in
    record {
      conflict =
          falsified_conflict c.args.self.now.lits (g.P.Part.keeps c.args.part.now) c.args.clause.now c.loop-l.l-index c.loop-l-test.true x c.l-item.is
          (sym c.keeps_literal.ensures ∙ c.if-keeps_literal.true) lits c.loop-l.invariant.added (true_from_value lits x c.in-True.ensures.value);
      added = tt;
      quiet = c.loop-l.invariant.quiet;
    }

pub loop-l-preserved : goal.loop-l-preserved
loop-l-preserved g c =
    let clause = c.args.clause.now in let keeps = g.P.Part.keeps c.args.part.now in
    let i = c.loop-l.l-index in let x = c.l-item.result in let inside = c.loop-l-test.true in
    let first = c.args.self.now.lits in let lits = c.loop-l.self.lits in
    let so_far = c.loop-l.invariant in
    elim c.if-keeps_literal.branch [
      | then-keeps_literal+in-False w ↦
          let kept = sym c.keeps_literal.ensures ∙ w.if-keeps_literal.true in
          let next = falsified_next first keeps clause i inside x c.l-item.is kept in
          let here = false_from_value lits x w.in-False.ensures.value in
          rw w.self-is (record {
            added = λ l. same_old lits (falsified first keeps (take i clause)) (complement x) so_far.added here l ∙ ap (λ ls. has ls l) (sym next);
            quiet = so_far.quiet;
            begins = so_far.begins;
            longer = so_far.longer;
            reserved = so_far.reserved;
          })
      | then-keeps_literal+in-Open w ↦
          let kept = sym c.keeps_literal.ensures ∙ w.if-keeps_literal.true in
          let next = falsified_next first keeps clause i inside x c.l-item.is kept in
          let tests = open_from_value lits x w.in-Open.ensures.value in let m = complement x in
          let lits_are = ap (λ t. t.lits) w.self-is ∙ w.set.ensures.lits ∙ ap (λ k. lits ++ k ∷ []) w.neg.ensures in
          let long = length-append lits (m ∷ []) in let longer = so_far.longer in
          record {
            added = λ l. ap (λ ls. has ls l) lits_are ∙ same_pushed lits (falsified first keeps (take i clause)) m so_far.added l ∙ ap (λ ls. has ls l) (sym next);
            quiet = ap conflicts lits_are ∙ quiet_push lits m so_far.quiet (ap (has lits) (complement-complement x) ∙ tests.0);
            begins = ap (take (length first)) lits_are ∙ begins_push first lits m so_far.begins so_far.longer;
            longer = rw lits_are (omega arith);
            reserved = λ v. ap (λ t. has t.reserved v) w.self-is ∙ w.set.ensures.reserved v ∙ so_far.reserved v;
          }
      | else-keeps_literal w ↦
          let same = falsified_same first keeps clause i inside x c.l-item.is (sym c.keeps_literal.ensures ∙ w.if-keeps_literal.false) in
          rw w.self-is (record {
            added = λ l. so_far.added l ∙ ap (λ ls. has ls l) (sym same);
            quiet = so_far.quiet;
            begins = so_far.begins;
            longer = so_far.longer;
            reserved = so_far.reserved;
          })
    ]
