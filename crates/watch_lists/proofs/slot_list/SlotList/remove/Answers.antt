use Rattle.{cnf_base.specs.Literals.has, std.proofs.Common.{ap, arith, sym, ◌∙◌}}
use Rattle.{tables.specs.ByKey.at, watch_lists.proofs.WatchListsLemmas.SlotList.placed_some}
use Rattle.watch_lists.proofs.slot_list.SlotList.remove.Goals as goal

pub swap_remove-requires : goal.swap_remove-requires
swap_remove-requires c =
    let i = c.self.inside in
    let w = placed_some i.slots.items (at i.places) c.self.invariant c.args.slot (ap (λ ls. has ls c.args.slot) c.self.view_is ∙ c.requires) c.in-Some.place (sym c.get.ensures ∙ c.in-Some.is) in
    let low = w.0 in
    omega arith
