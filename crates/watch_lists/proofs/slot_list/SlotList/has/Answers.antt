use Rattle.{cnf_base.specs.Literals.has, std.proofs.Common.{ap, arith, length, sym, ◌∙◌, ◌≤◌}}
use Rattle.{std.proofs.lemmas.Bool.le-ltb, tables.specs.ByKey.at}
use Rattle.watch_lists.proofs.WatchListsLemmas.SlotList.{absent_past}
use Rattle.watch_lists.proofs.slot_list.SlotList.has.Goals as goal

pub returns-else-place-len : goal.returns-else-place-len
returns-else-place-len c =
    let i = c.self.inside in
    let past : length i.slots.items ≤ c.in-Some.place = omega arith in
    le-ltb c.in-Some.place c.len.result c.if-place-len.false
    ∙ absent_past i.slots.items (at i.places) c.self.invariant c.args.slot c.in-Some.place
    (sym c.get.ensures ∙ c.in-Some.is) past
    ∙ ap (λ ls. has ls c.args.slot) c.self.view_is
