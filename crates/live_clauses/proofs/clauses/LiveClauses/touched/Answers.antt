use Rattle.live_clauses.proofs.ClausesLemmas.{Kept.when_both, Touched.{AreTouched, are_touched}}
use Rattle.live_clauses.proofs.clauses.LiveClauses.touched.Goals.{After-identify}
use Rattle.{live_clauses.specs.Code.LiveClauses.owner_at, std.proofs.Common.{OnOk, ap, map, rules}}
use Rattle.std.{proofs.Common.subst, specs.List.Sorted.IsPermutation}
use Rattle.std.specs.FinMap as maps
use Rattle.live_clauses.proofs.clauses.LiveClauses.touched.Goals as goal

found : (c : After-identify) → OnOk c.identify.result (AreTouched (maps.get c.args.self.now.live) c.args.l c.identify.new.into.items)
found c =
    let s = c.self.inside in
    let noted = c.keep.ensures.owners c.self.invariant.2 c.in_ok-keep.ensures.kept in
    let slots = c.slots_touched.new.into.items in
    let moved = subst (λ ls. OnOk c.identify.result (IsPermutation (map (owner_at c.keep.new.self) ls) c.identify.new.into.items)) c.as_slice.ensures.value c.identify.ensures.same in
    when_both c.identify.result (λ moved. are_touched s.ids s.store.live c.args.self.now (ap (λ v. v.live) c.self.view_is) c.self.invariant.0.0 c.keep.new.self.by_slot.items noted c.args.l slots c.identify.new.into.items c.in_ok-slots_touched.ensures.each c.in_ok-slots_touched.ensures.all moved c.in_ok-slots_touched.ensures.ascending) moved c.identify.ensures.sorted

pub returns-clause-ascending : goal.returns-clause-ascending
returns-clause-ascending c = let f = found c in search rules

pub returns-clause-each : goal.returns-clause-each
returns-clause-each c = let f = found c in search rules

pub returns-clause-all : goal.returns-clause-all
returns-clause-all c = let f = found c in search rules
