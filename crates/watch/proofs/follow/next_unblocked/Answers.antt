use Rattle.{std.proofs.lemmas.Option.same_Some, watch_lists.proofs.WatchListsLemmas.Lists.entry_at}
use Rattle.{cnf_base.specs.Literals.has, std.proofs.Common.arith, std.proofs.Common.sym}
use Rattle.watch.proofs.WatchLemmas.Visits.{kept_fewer, kept_met, next_entry, put_same}
use Rattle.std.proofs.{Common.ap, Common.refl, Common.◌∙◌, lemmas.Bool.and_parts}
use Rattle.watch.proofs.follow.next_unblocked.Goals as goal

pub loop-entry-preserved : goal.loop-entry-preserved
loop-entry-preserved g c =
    let cursor = c.loop-entry.cursor in
    let e = c.in-Some.entry in
    let next = sym c.next.ensures ∙ c.in-Some.is in
    let r = entry_at cursor.entries cursor.visited e next in
    let kept = c.keep in
    let so_far = c.loop-entry.invariant in
    let trues = (g.A.Assignment.trail_of c.args.assignment.now).lits in
    let satisfied = ap (has trues) (sym c.blocking.ensures) ∙ sym c.is_true_under.ensures ∙ c.if-not-is_true_under.false in record {
      entries = kept.ensures.entries ∙ put_same cursor.entries cursor.visited e r.1 ∙ so_far.entries;
      met = λ live lists l hand met.
          let w = next_entry {lists = lists} {l = l} cursor e next (simp so_far.entries hand) in
          kept_met live live l trues trues (λ l h. h) cursor kept.new.self e.slot r.0 (so_far.met live lists l hand met)
          (λ s ne. refl) e refl kept.ensures.entries kept.ensures.visited
          (λ x there _. (
            e.blocking,
            ap (λ y. has y e.blocking) (same_Some x w.clause (sym there ∙ w.at))
                ∙ (and_parts (has w.clause e.blocking) _ w.fitting).0,
            satisfied,
          ));
      no_more =
          let fewer = kept_fewer cursor kept.new.self r.0 e kept.ensures.entries kept.ensures.visited in
          let before = so_far.no_more in
          omega (arith, fewer, before);
    }
