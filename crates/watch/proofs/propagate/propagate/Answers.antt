use Rattle.{cnf_base.specs.Literals.complement, trail.proofs.TrailLemmas.MakesFalse.no_conflict}
use Rattle.{cnf_base.specs.Literals.has, watch.proofs.WatchLemmas.Turns.{front_other, turn_next}}
use Rattle.std.proofs.Common.{ap, arith, length, refl, take_all, ◌<◌, ◌∙◌, ◌≤◌}
use Rattle.watch.proofs.WatchLemmas.Visits.{false_at, fits_on, followed_none, followed_on, read_at}
use Rattle.watch.proofs.propagate.propagate.Goals as goal

pub follow_or_wait-requires-clause-is_false : goal.follow_or_wait-requires-clause-is_false
follow_or_wait-requires-clause-is_false c = grind (arith, false_at)

pub loop-done-init : goal.loop-done-init
loop-done-init c =
    record { turn = grind arith; followed = followed_none c.requires.can; slots = refl }

pub returns-in_err-slot-clause-followed : goal.returns-in_err-slot-clause-followed
returns-in_err-slot-clause-followed c = followed_on c.loop-done.invariant.followed c.follow_or_wait.ensures.followed

pub returns-in-Some-clause-followed : goal.returns-in-Some-clause-followed
returns-in-Some-clause-followed c = followed_on c.loop-done.invariant.followed c.follow_or_wait.ensures.followed

pub returns-in_err-slot-2-clause-followed : goal.returns-in_err-slot-2-clause-followed
returns-in_err-slot-2-clause-followed c = followed_on c.loop-done.invariant.followed c.follow.ensures.followed

pub returns-in-Some-2-clause-followed : goal.returns-in-Some-2-clause-followed
returns-in-Some-2-clause-followed c = followed_on c.loop-done.invariant.followed c.follow.ensures.followed

pub loop-done-smaller-in-None : goal.loop-done-smaller-in-None
loop-done-smaller-in-None c =
    let fits = fits_on c.loop-done.invariant.followed.propagates c.trail.ensures c.len.ensures.different c.len.ensures.within in
    let count = c.in_ok-slot.ensures.count in
    grind arith

pub loop-done-preserved-in-None : goal.loop-done-preserved-in-None
loop-done-preserved-in-None c =
    let before = c.loop-done in
    let trues = before.assumptions.trail.lits in
    let e = c.in_ok-slot.ensures in
    let shown = c.lits.ensures.value ∙ ap (λ t. t.lits) c.trail-then-done-len.ensures in
    let inside : before.done < length trues = let low = c.if-done-len.true in let n = c.len.ensures.value ∙ ap (λ t. length t.lits) c.trail.ensures in omega arith in
    let read = c.neg-l.ensures ∙ ap (λ p. complement p) (read_at trues inside shown c.index-lits-done.is) in
    let is_false = false_at trues inside shown c.index-lits-done.is c.neg-l.ensures in record {
      turn =
          turn_next e.followed.propagates _ _ _ _ _ before.invariant.turn is_false (omega (arith, inside)) e.waiting
          (front_other trues before.done inside read) (simp c.in-None.is at e.met);
      followed = followed_on before.invariant.followed e.followed;
      slots = c.follow_or_wait.ensures.slots ∙ before.invariant.slots;
    }

pub returns-in_default-clause-watched : goal.returns-in_default-clause-watched
returns-in_default-clause-watched c =
    let trues = c.loop-done.assumptions.trail.lits in
    let past : length trues ≤ c.loop-done.done = let high = c.if-done-len.false in let n = c.len.ensures.value ∙ ap (λ t. length t.lits) c.trail.ensures in omega arith in record {
      each = λ s d is k h. c.loop-done.invariant.turn.met k (ap (λ ls. has ls (complement k)) (take_all c.loop-done.done trues past) ∙ h) (c.in_default.ensures.none k) s d is;
    }

pub returns-in_default-clause-quiet : goal.returns-in_default-clause-quiet
returns-in_default-clause-quiet c = simp c.trail.ensures at (no_conflict c.trail.result.now.lits c.len.ensures.different)

pub loop-done-preserved : goal.loop-done-preserved
loop-done-preserved c =
    let before = c.loop-done in
    let turn = before.invariant.turn in
    let l = c.in-Some-take.l in
    let e = c.in_ok-slot-2.ensures in record {
      turn =
          turn_next e.followed.propagates _ _ _ _ _ turn (turn.are_false l c.in-Some-take.ensures.some) turn.inside c.in-Some-take.ensures.others
          (λ k ne h. h) (λ free. simp c.in_default-2.is at e.met);
      followed = followed_on before.invariant.followed e.followed;
      slots = c.follow.ensures.slots ∙ before.invariant.slots;
    }
