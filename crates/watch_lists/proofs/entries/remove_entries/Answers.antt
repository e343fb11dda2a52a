use Rattle.{clause_db.specs.Store.is_tautology, cnf_base.specs.Literals.{Clause, Literal, has}}
use Rattle.std.proofs.Common.{List, Option, Some, ap, arith, eq-eqb, eqb, false, get_or, length}
use Rattle.std.proofs.Common.{refl, rules, subst, sym, true, ℕ, ◌<◌, ◌∙◌, ◌≡◌, ◌≤◌}
use Rattle.{std.proofs.lemmas.Bool.or_right, watch_lists.specs.Watched.{IsListed, watches}}
use Rattle.watch_lists.proofs.WatchListsLemmas.Entries.{tautology_listed, two_apart, two_watched}
use Rattle.watch_lists.proofs.WatchListsLemmas.Lists.{marked_fitting}
use Rattle.watch_lists.specs.{Lists.{list_at, marked_entries}, declared.watcher.Watcher.Watcher}
use Rattle.watch_lists.proofs.entries.remove_entries.Goals as goal

first_watched : (d : Clause) (first : Literal) → is_tautology d ≡ false → 2 ≤ length d → first ≡ get_or d 0 first → watches d first ≡ true
first_watched d first h1 h2 h3 = search rules

-- the entry in the list of a literal that the clause watches has the clause's mark
marked : (live : ℕ → Option Clause) (list_of : Literal → List Watcher) → IsListed live list_of → (s n : ℕ) (d : Clause) (l : Literal) → n ≡ s → live s ≡ Some d → watches d l ≡ true → 0 < marked_entries n (eqb (length d) 2) (list_of l)
marked live list_of listed s n d l same here watched =
    let most = marked_fitting (list_of l) s l d in
    grind arith

pub take_off-requires-clause-there : goal.take_off-requires-clause-there
take_off-requires-clause-there c =
    let d = c.clause-clause.result.now in
    let first = c.index-clause-0.result in
    let watched : watches d first ≡ true = search (rules, arith, first_watched, tautology_listed) in
    marked _ (list_at c.args.lists.now) (c.requires.listed (search rules)) c.args.slot c.number-number.result d first c.number-number.ensures (sym c.clause-clause.ensures.clause) watched

pub take_off-requires-then-not-is_loading-clause-there :
    goal.take_off-requires-then-not-is_loading-clause-there
take_off-requires-then-not-is_loading-clause-there c =
    let d = c.clause-clause.result.now in
    let first = c.index-clause-0.result in
    let second = c.index-clause-1.result in
    let long = c.if-clause-lt2.false in
    let apart = two_apart first second d long (sym c.clause-clause.ensures.different) c.index-clause-0.is c.index-clause-1.is in
    let here = sym c.clause-clause.ensures.clause in
    let none = ap (has c.args.tautologies.now) (sym c.number-number.ensures) ∙ sym c.has.ensures ∙ c.if-has.false in
    let alone = sym (tautology_listed _ c.args.tautologies.now c.requires.tautologies c.args.slot d here) ∙ none in
    let watched = two_watched first second d alone long c.index-clause-0.is c.index-clause-1.is second ∙ or_right (eqb first second) (eqb second second) (eq-eqb second second refl) in
    let listed = c.requires.listed (search rules) in
    let there = marked _ (list_at c.args.lists.now) listed c.args.slot c.number-number.result d second c.number-number.ensures (sym c.clause-clause.ensures.clause) watched in
    subst (λ xs. 0 < marked_entries c.number-number.result (eqb (length d) 2) xs) (sym (c.take_off.ensures.others second (λ e. apart (sym e)))) there
