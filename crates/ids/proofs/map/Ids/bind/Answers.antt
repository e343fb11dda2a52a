use Rattle.std.proofs.Common.{cond, eqb, subst, sym, ap, ◌∙◌, arith}
use Rattle.std.specs.FinMap as maps
use Rattle.ids.specs.Code.{Far.far_at, Ids.page_at, Ids.entry_at, Ids.entry_for, Ids.IsOwned}
use Rattle.ids.proofs.IdLemmas.Map.{as_map-insert, unbound_entry, both_none, once-paged, page_empty}
use Rattle.ids.proofs.IdLemmas.Map.{page_filled, entry_for-far, entry_for-paged}
use Rattle.ids.proofs.map.Ids.bind.Goals as goal

pub fill-requires-clause-empty : goal.fill-requires-clause-empty
fill-requires-clause-empty c = grind (arith, unbound_entry, page_empty)

pub invariant_of-self-2 : goal.invariant_of-self-2
invariant_of-self-2 c =
    let i = c.self.inside in
    let id = c.args.id in
    let d = c.page_for.new.directory in
    let paged = c.page_for.ensures.paged in
    let entry = c.in_ok-entry.entry in
    let none = unbound_entry (entry_for i.directory i.pages i.far) id (omega arith) (ap (λ m. maps.get m id) c.self.view_is ∙ c.requires) in
    let filled = page_filled i.directory i.pages i.far id none d c.page_for.new.pages paged c.page_for.ensures.same _ c.in_ok-page.ensures.ok c.if-page-eq0.false c.fill.new.self entry c.fill.ensures.entries in
    record {
      paged = record { counted = c.fill.ensures.counted; owned = subst (IsOwned (page_at d)) (sym c.fill.ensures.numbers) paged.owned };
      once = once-paged i.directory i.pages i.far id entry d c.fill.new.self filled (both_none (entry_at i.directory i.pages id) (far_at i.far id) none).1 c.self.invariant.once;
    }

pub returns-then-page-eq0-clause-ok : goal.returns-then-page-eq0-clause-ok
returns-then-page-eq0-clause-ok c =
    let i = c.self.inside in
    let id = c.args.id in
    let d = c.page_for.new.directory in
    let g = c.page_for.new.pages in
    let far = c.put_far.new.far in
    let entry = c.in_ok-entry.entry in
    let none = unbound_entry (entry_for i.directory i.pages i.far) id (omega arith) (ap (λ m. maps.get m id) c.self.view_is ∙ c.requires) in
    as_map-insert (entry_for i.directory i.pages i.far) (entry_for d g far) id entry (omega arith) (λ k.
    ap (λ e. cond (eqb e 0) (far_at far k) e) (c.page_for.ensures.same k)
    ∙ entry_for-far i.directory i.pages i.far id entry far c.in_ok-put_far.ensures.ok (both_none (entry_at i.directory i.pages id) (far_at i.far id) none).0 k)
    c.args.slot c.in_ok-entry.ensures ∙ ap (λ m. maps.insert m id c.args.slot) c.self.view_is

pub returns-clause-ok : goal.returns-clause-ok
returns-clause-ok c =
    let i = c.self.inside in
    let entries = entry_for i.directory i.pages i.far in
    let id = c.args.id in
    let entry = c.in_ok-entry.entry in
    let none = unbound_entry entries id (omega arith) (ap (λ m. maps.get m id) c.self.view_is ∙ c.requires) in
    let p = c.page_for in
    let filled = page_filled i.directory i.pages i.far id none p.new.directory p.new.pages p.ensures.paged p.ensures.same _ c.in_ok-page.ensures.ok c.if-page-eq0.false c.fill.new.self entry c.fill.ensures.entries in
    as_map-insert entries (entry_for p.new.directory c.fill.new.self i.far) id entry (omega arith)
    (entry_for-paged i.directory i.pages i.far id entry p.new.directory c.fill.new.self filled (both_none (entry_at i.directory i.pages id) (far_at i.far id) none).1)
    c.args.slot c.in_ok-entry.ensures ∙ ap (λ m. maps.insert m id c.args.slot) c.self.view_is
