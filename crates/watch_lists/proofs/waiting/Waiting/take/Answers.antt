use Rattle.{cnf_base.specs.Literals.Literal, std.proofs.Common.{List, ap, eqb, get_or, length, sym}}
use Rattle.std.proofs.{Common.{ℕ, ◌<◌, ◌||◌, ◌∙◌, ◌∷◌, ◌≡◌}, Math.Bool.or-true, lemmas.Bool.ne_eqb}
use Rattle.std.proofs.lemmas.List.Sorted.{IsPermutation-remove, list_any-IsPermutation}
use Rattle.{std.specs.List.{list_any, remove}, watch_lists.specs.declared.waiting.Waiter.Waiter}
use Rattle.watch_lists.proofs.waiting.Waiting.take.Goals as goal

-- one that is taken out is all that waits no longer
waits_removed : (xs : List Waiter) (i : ℕ) (x : Waiter) → i < length xs → x ≡ get_or xs i x → (k : Literal) → list_any (λ w. eqb w.l k) xs ≡ (eqb x.l k || list_any (λ w. eqb w.l k) (remove xs i))
waits_removed xs i x inside is k = list_any-IsPermutation (λ w. eqb w.l k) xs (x ∷ remove xs i) (IsPermutation-remove xs i x inside is)

pub returns-clause-others : goal.returns-clause-others
returns-clause-others c k apart =
    let inside = simp c.as_slice.ensures.value at c.shortest-place.ensures in
    let removed = waits_removed c.args.self.now.waiters.items c.shortest-place.result c.remove.result inside c.remove.ensures.value k in
    let other = ne_eqb c.remove.result.l k (λ same. apart (sym same)) in
    ap (list_any (λ w. eqb w.l k)) c.remove.ensures.items ∙ sym (simp other at removed)

pub returns-clause-within : goal.returns-clause-within
returns-clause-within c k waits =
    let inside = simp c.as_slice.ensures.value at c.shortest-place.ensures in
    let removed = waits_removed c.args.self.now.waiters.items c.shortest-place.result c.remove.result inside c.remove.ensures.value k in
    let rest = simp c.remove.ensures.items at waits in
    removed ∙ ap (λ b. eqb c.remove.result.l k || b) rest ∙ or-true (eqb c.remove.result.l k)
