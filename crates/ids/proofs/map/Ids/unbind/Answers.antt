use Rattle.std.proofs.Common.{◌≢◌, set, sym, ap, ◌∙◌, refl, arith}
use Rattle.std.specs.FinMap as maps
use Rattle.ids.specs.Code.Ids.{place, slot_from, entry_at, entry_for}
use Rattle.ids.proofs.IdLemmas.Map.{get-as_map, as_map-remove, entry_at-written, has_page}
use Rattle.ids.proofs.IdLemmas.Map.{entry_for-else, entry_for-far, entry_for-paged, entry_for-here}
use Rattle.ids.proofs.map.Ids.unbind.Goals as goal

pub returns-then-entry-eq0-clause-was : goal.returns-then-entry-eq0-clause-was
returns-then-entry-eq0-clause-was c =
    let i = c.self.inside in
    let id = c.args.id in
    let none = sym c.paged_entry-entry.ensures ∙ c.if-entry-eq0.true in
    c.slot_in.ensures ∙ ap slot_from (c.take_far.ensures.number ∙ sym (entry_for-else i.directory i.pages i.far id none))
    ∙ sym (get-as_map (entry_for i.directory i.pages i.far) id (omega arith)) ∙ ap (λ m. maps.get m id) c.self.view_is

pub returns-then-entry-eq0-clause-ids : goal.returns-then-entry-eq0-clause-ids
returns-then-entry-eq0-clause-ids c =
    let i = c.self.inside in
    let id = c.args.id in
    let none = sym c.paged_entry-entry.ensures ∙ c.if-entry-eq0.true in
    as_map-remove (entry_for i.directory i.pages i.far) (entry_for i.directory i.pages c.take_far.new.far) id 0 (omega arith)
    (entry_for-far i.directory i.pages i.far id 0 c.take_far.new.far c.take_far.ensures.rest none) refl
    ∙ ap (λ m. maps.remove m id) c.self.view_is

pub returns-clause-was : goal.returns-clause-was
returns-clause-was c =
    let i = c.self.inside in
    let id = c.args.id in
    let some : entry_at i.directory i.pages id ≢ 0 = λ e. c.if-entry-eq0.false (c.paged_entry-entry.ensures ∙ e) in
    c.slot_in-2.ensures ∙ ap slot_from (c.paged_entry-entry.ensures ∙ sym (entry_for-here i.directory i.pages i.far id some))
    ∙ sym (get-as_map (entry_for i.directory i.pages i.far) id (omega arith)) ∙ ap (λ m. maps.get m id) c.self.view_is

pub returns-clause-ids : goal.returns-clause-ids
returns-clause-ids c =
    let i = c.self.inside in
    let id = c.args.id in
    let bound : entry_at i.directory i.pages id ≢ 0 = λ e. c.if-entry-eq0.false (c.paged_entry-entry.ensures ∙ e) in
    let some = has_page i.directory i.pages c.self.invariant.paged id bound in
    let written = c.clear.ensures.entries ∙ ap (λ p. set i.pages.entries.items (place p id) 0) c.page-page.ensures in
    as_map-remove (entry_for i.directory i.pages i.far) (entry_for c.close.new.directory c.close.new.pages i.far) id 0 (omega arith)
    (entry_for-paged i.directory i.pages i.far id 0 c.close.new.directory c.close.new.pages (λ k.
    c.close.ensures.same k ∙ entry_at-written i.directory i.pages c.self.invariant.paged c.clear.new.self id 0 some written k) (c.self.invariant.once id bound)) refl
    ∙ ap (λ m. maps.remove m id) c.self.view_is
