use Rattle.{cnf_base.specs.Literals.has, std.proofs.lemmas.Bool.and_parts}
use Rattle.{std.proofs.Common.{subst, sym, ◌∙◌}, watch.proofs.WatchLemmas.Visits.room_in}
use Rattle.{std.proofs.lemmas.Option.same_Some, trail.proofs.TrailLemmas.Truth.false_from_value}
use Rattle.watch.proofs.WatchLemmas.Visits.{binary_all, binary_others, not_false, other_fits}
use Rattle.watch.specs.{Code.Visits.IsVisit, declared.visit.Visit.TheVariants.{Conflict, Unit}}
use Rattle.watch.proofs.visit.look_at.Goals as goal

pub look-requires-clause-room : goal.look-requires-clause-room
look-requires-clause-room g c =
    room_in c.args.store.now.live c.requires.room _ c.clause.result.now (sym c.clause.ensures.clause)

pub value_of-requires : goal.value_of-requires
value_of-requires g c = let w = c.requires.entry in let other = c.blocking-other.result in
    let fitting = other_fits w.clause c.args.l (sym c.if-not-is_binary.false ∙ c.is_binary.ensures) c.blocking-other.ensures w.fitting in
    room_in c.args.store.now.live c.requires.room c.args.entry.slot w.clause w.at other (and_parts (has w.clause other) _ fitting).0

pub returns-in-False-clause-visit : goal.returns-in-False-clause-visit
returns-in-False-clause-visit g c clause there = let w = c.requires.entry in
    let trues = (g.A.Assignment.trail_of c.args.assignment.now).lits in
    subst (λ d. IsVisit trues d c.args.l Conflict) (same_Some w.clause clause (sym w.at ∙ there))
    (binary_all _ _ _ _ w.watched (other_fits _ _ (sym c.if-not-is_binary.false ∙ c.is_binary.ensures) c.blocking-other.ensures w.fitting)
    c.requires.is_false (false_from_value _ _ c.in-False.ensures.value))

pub returns-in_default-clause-visit : goal.returns-in_default-clause-visit
returns-in_default-clause-visit g c clause there = let w = c.requires.entry in
    let other = c.blocking-other.result in
    let trues = (g.A.Assignment.trail_of c.args.assignment.now).lits in
    let fitting = other_fits _ _ (sym c.if-not-is_binary.false ∙ c.is_binary.ensures) c.blocking-other.ensures w.fitting in
    subst (λ d. IsVisit trues d c.args.l (Unit other)) (same_Some w.clause clause (sym w.at ∙ there)) (
      (and_parts (has w.clause other) _ fitting).0,
      not_false _ c.value_of.ensures.different _ _ c.value_of.ensures.value c.in_default.not-False,
      binary_others _ _ _ _ w.watched fitting c.requires.is_false,
    )
