use Rattle.cnf_base.{proofs.MapLemmas.{inserted_is, removed_back}, specs.Literals.Clause}
use Rattle.{cnf_base.proofs.SetLemmas.{same_from, same_trans}, std.proofs.Common.{ℕ, ◌∙◌, ◌≡◌, ◌≢◌}}
use Rattle.propagation.{proofs.PropagationLemmas.Scan.room_added, specs.Closure.IsClosure}
use Rattle.root_literals.proofs.RootLemmas.Reasons.{get_ordered, literals_ordered, ordered_alike}
use Rattle.root_literals.proofs.RootLemmas.Reasons.{same-in_order, seen_there}
use Rattle.{root_literals.specs.Order.{each_in_order, in_order}, std.proofs.lemmas.Option.none-some}
use Rattle.std.proofs.{Common.{Some, ap, arith, subst, sym}, lemmas.Bool.false_from_ne_true}
use Rattle.watch.proofs.WatchLemmas.State.{alone_kept, tautologies_added, tautologies_there}
use Rattle.watch.proofs.WatchLemmas.State.{watch_added, watch_room, watch_same}
use Rattle.watch_lists.{proofs.WatchListsLemmas.Entries.times_has, specs.Watched.tautology_for}
use Rattle.std.specs.FinMap as maps
use Rattle.watch.proofs.watch.WatchPropagate.insert.Goals as goal

pub add_entries-requires-clause-no_tautology : goal.add_entries-requires-clause-no_tautology
add_entries-requires-clause-no_tautology c = let i = c.self.inside in
    let slot = c.in_ok-slot.slot in let none =
    (tautologies_there _ _ c.self.invariant.3).listed slot
    ∙ ap tautology_for c.in_ok-slot.ensures.free in grind (arith, false_from_ne_true, times_has)

pub enter-requires-clause-kept : goal.enter-requires-clause-kept
enter-requires-clause-kept c = let i = c.self.inside in let r = c.reserve_room.ensures in
    let watch = watch_room r.more r.noted c.self.invariant.0 in
    grind (arith, removed_back, alone_kept)

pub invariant_of-self-in-Ok : goal.invariant_of-self-in-Ok
invariant_of-self-in-Ok c =
    let i = c.self.inside in
    let live = i.store.live in
    let after = c.arrange-arranged.new.store.live in
    let slot = c.in_ok-slot.slot in
    let held = c.reserve_room.new.assumptions in
    let now = c.enter.new.assumptions in
    let r = c.reserve_room.ensures in
    let watch = watch_room r.more r.noted c.self.invariant.0 in
    let d = c.in_ok-slot.ensures.stored in
    let w = c.arrange-arranged.ensures.arranged d.0 d.1 in
    let e = c.in-Ok.ensures in
    let n = c.enter.ensures in
    let others : (s : ℕ) → s ≢ slot → maps.get after s ≡ maps.get live s = grind arith in
    let is_same = same_trans (in_order w.0) w.0 c.args.lits.now (same-in_order w.0) (same_trans w.0 d.0 c.args.lits.now (grind (arith, same_from)) d.2) in
    let room = room_added held.trail.reserved (each_in_order live) (each_in_order after) slot c.args.lits.now watch.scan.room c.in_ok-reserve_room.ensures.room
    (grind (arith, seen_there)) (grind (arith, get_ordered)) in (
      watch_added _ _ _ _ _ _ _ _ _ _ _ watch (grind arith)
          slot w.0 (e.different w.0 w.1) (grind arith) n.kept
          (grind arith)
          c.in_ok-slot.ensures.free (grind (arith, inserted_is)) e.low
          (grind arith) (e.fitting w.0 w.1),
      c.arrange-arranged.ensures.live_alone ∙ sym (literals_ordered after),
      subst (λ m. IsClosure (maps.get m) c.insert_clause.new.closure) (sym (ordered_alike c.insert_clause.new.store.live after slot d.0 w.0 d.1 w.1 w.2 c.arrange-arranged.ensures.others)) c.insert_clause.ensures.closure,
      tautologies_added _ _ _ _ _ _ c.self.invariant.3 c.in_ok-slot.ensures.free (inserted_is live after slot w.0 w.1 others) (e.tautologies w.0 w.1),
    )

pub invariant_of-self-in-Err : goal.invariant_of-self-in-Err
invariant_of-self-in-Err c = let i = c.self.inside in let live = i.store.live in
    let held = c.reserve_room.new.assumptions in let roots = c.reserve_room.new.roots in
    let e = c.in-Err.ensures in
    let watch = watch_room c.reserve_room.ensures.more c.reserve_room.ensures.noted c.self.invariant.0 in
    let d = c.in_ok-slot.ensures.stored in let w = c.arrange-arranged.ensures.arranged d.0 d.1 in
    let fewer = λ (l s : ℕ) (x : Clause) (is : maps.get live s ≡ Some x). e.fitting w.0 w.1 l s x (grind (arith, none-some)) in
    let back = c.remove_clause.ensures.live ∙ removed_back live c.arrange-arranged.new.store.live c.in_ok-slot.slot c.in_ok-slot.ensures.free (grind arith) in (grind (arith, watch_same, literals_ordered))

pub returns-in-Ok-clause-stored : goal.returns-in-Ok-clause-stored
returns-in-Ok-clause-stored c = let d = c.in_ok-slot.ensures.stored in
    let w = c.arrange-arranged.ensures.arranged d.0 d.1 in (
      in_order w.0,
      grind (arith, seen_there),
      same_trans (in_order w.0) w.0 c.args.lits.now (same-in_order w.0) (same_trans w.0 d.0 c.args.lits.now (grind (arith, same_from)) d.2),
    )

pub invariant_of-self : goal.invariant_of-self
invariant_of-self c =
    let r = c.reserve_room.ensures in search (watch_room r.more r.noted c.self.invariant.0)

pub invariant_of-self-in_err-slot : goal.invariant_of-self-in_err-slot
invariant_of-self-in_err-slot c = let r = c.reserve_room.ensures in
    let watch = watch_room r.more r.noted c.self.invariant.0 in grind arith
