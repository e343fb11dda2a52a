use Rattle.occurrences.{proofs.EntryLemmas.{push_occurs, put_over}, specs.Code.Known.AreAlike}
use Rattle.occurrences.specs.{Entries.births_of, Occurrences.occurs}
use Rattle.{occurrences.specs.declared.occurrence.Occurrence.Occurrence, std.proofs.Common.{[], ap}}
use Rattle.std.proofs.Common.{cond, eq-eqb, eqb, ne_eqb, refl, subst, sym, ◌&&◌, ◌++◌, ◌||◌, ◌∙◌}
use Rattle.{std.proofs.{Common.{◌∷◌, ◌≡◌}, lemmas.Result.on_ok_weaker}, tables.specs.Lists.list_at}
use Rattle.occurrences.proofs.by_literal.Occurrences.push.Goals as goal

pub returns-clause-ok : goal.returns-clause-ok
unfolding occurs
returns-clause-ok c =
    on_ok_weaker c.add-added.result (λ alike k s. let old = c.args.self.now in
    let key = c.key-key.result in let after = list_at c.put_back.new.self in
    let list = c.add-added.new.list.items in
    let e : Occurrence = record { slot = c.args.slot; birth = c.births_at-birth.result } in
    let put = put_over (list_at old.lists) (list_at c.take_out-list.new.self)
    after key list c.take_out-list.ensures.others c.put_back.ensures.lists in
    let here : after key ≡ list = put key
    ∙ ap (λ b. cond b list (list_at old.lists key)) (eq-eqb key key refl) in
    let more = subst (λ xs. AreAlike old.births (xs ++ e ∷ []) (after key))
    c.take_out-list.ensures.list (subst
    (AreAlike old.births (c.take_out-list.result.items ++ e ∷ [])) (sym here) alike) in
    push_occurs old.births (list_at old.lists) after key c.args.slot e refl
    (eq-eqb (births_of old.births c.args.slot) c.births_at-birth.result
    (sym c.births_at-birth.ensures)) more
    (λ j ne. put j ∙ ap (λ b. cond b list (list_at old.lists j)) (ne_eqb j key ne)) k s
    ∙ ap (λ n. occurs old k s || (eqb k n && eqb s c.args.slot)) c.key-key.ensures)
    c.add-added.ensures.ok
