use Rattle.{clause_db.specs.Store.is_tautology, std.proofs.Common.{arith, false, rules, ◌≡◌}}
use Rattle.watch_lists.proofs.WatchListsLemmas.Entries.{both_fit, one_each_in, two_apart}
use Rattle.watch_lists.{proofs.WatchListsLemmas.Entries.two_watched, specs.Code.Part.is_in}
use Rattle.watch_lists.proofs.listing.watch_in.Goals as goal

pub returns-clause-watched : goal.returns-clause-watched
returns-clause-watched c l s =
    let d = c.args.clause.now in
    let first = c.first-item.result in
    let second = c.second-item.result in
    let long = c.in-len2-up.len_at_least in
    let first_is = c.first-item.is in
    let second_is = c.second-item.is in
    let apart = two_apart first second d long c.requires.different first_is second_is in
    let alone : is_tautology d ≡ false = search (rules, arith) in
    let watched = two_watched first second d alone long first_is second_is l in
    let split = one_each_in first second apart (is_in c.args.part) c.args.number l s in
    let e = c.in_ok-push_in.ensures.watched l s in
    let f = c.in_ok-push_in-2.ensures.watched l s in
    search (rules, arith)

pub returns-clause-fitting : goal.returns-clause-fitting
returns-clause-fitting c l s d same = grind (arith, both_fit)
