use Rattle.clause_db.proofs.StoreLemmas.{Fields.live_alone, Swap.{has_rewatched, length_rewatched}}
use Rattle.{clause_db.proofs.StoreLemmas.Replaced.all_replaced, std.proofs.Common.{ap, ◌∙◌}}
use Rattle.std.specs.FinMap as maps
use Rattle.clause_db.proofs.store.Store.rewatch.Goals as goal

pub invariant_of-self : goal.invariant_of-self
invariant_of-self c =
    let i = c.self.inside in
    let w = c.requires in
    let x = w.0 in
    let here = ap (maps.get i.memory.live) c.number.ensures
    ∙ ap (λ v. maps.get v.live c.args.slot) c.self.view_is ∙ w.2 in
    let live = c.rewatch.ensures.live x w.1 here w.3 w.4 w.5 in
    let alike = has_rewatched x w.1 c.args.to w.3 w.6 w.7 in
    let as_long = length_rewatched x w.1 c.args.to in
    all_replaced i.index i.occurrences i.counts i.marks i.sum i.memory.live c.rewatch.new.self.live
    i.memory.stored c.rewatch.new.self.stored c.number.result x _ c.self.invariant here alike
    as_long live c.rewatch.ensures.live_alone

pub returns-clause-live_alone : goal.returns-clause-live_alone
returns-clause-live_alone c = live_alone _ _ _ _ (invariant_of-self c).0
