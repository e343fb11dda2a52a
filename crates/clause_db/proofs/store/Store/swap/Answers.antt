use Rattle.clause_db.proofs.StoreLemmas.{Fields.live_alone, Replaced.all_replaced, Swap.has_swapped}
use Rattle.std.{proofs.{Common.{ap, refl, ◌∙◌}, lemmas.List.Edits.length-swap}, specs.List.swap}
use Rattle.std.specs.FinMap as maps
use Rattle.clause_db.proofs.store.Store.swap.Goals as goal

pub invariant_of-self : goal.invariant_of-self
invariant_of-self c =
    let i = c.self.inside in
    let w = c.requires in
    let x = w.0 in
    let y = swap x c.args.a c.args.b in
    let alike = has_swapped x y c.args.a c.args.b w.2 w.3 refl in
    let as_long = length-swap x c.args.a c.args.b in
    let here = ap (maps.get i.memory.live) c.number.ensures
    ∙ ap (λ v. maps.get v.live c.args.slot) c.self.view_is ∙ w.1 in
    all_replaced i.index i.occurrences i.counts i.marks i.sum i.memory.live c.swap.new.self.live
    i.memory.stored c.swap.new.self.stored c.number.result x y c.self.invariant here alike as_long
    (c.swap.ensures.live x here) c.swap.ensures.live_alone

pub returns-clause-live_alone : goal.returns-clause-live_alone
returns-clause-live_alone c = live_alone _ _ _ _ (invariant_of-self c).0
