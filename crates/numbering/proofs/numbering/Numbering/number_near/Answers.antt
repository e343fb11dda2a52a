use Rattle.cnf_base.{proofs.WalkLemmas.take_is, specs.Literals.{has, variable}}
use Rattle.numbering.proofs.{NameLemmas.{same_names, with_names_push}, NumberLemmas.is_met}
use Rattle.numbering.{proofs.NumberLemmas.{number_is, number_near}, specs.Code.Numbers.number_at}
use Rattle.{numbering.specs.Names.number_in, std.proofs.Common.{[], ap, arith, length, refl, rules}}
use Rattle.std.proofs.Common.{slice_index_or, sym, take, true, vec_len, ◌<◌, ◌∙◌, ◌∷◌, ◌≡◌, ◌≢◌}
use Rattle.{std.proofs.lemmas.List.map-append, tables.specs.ByKey.at, theory.specs.Renaming.renamed}
use Rattle.numbering.proofs.numbering.Numbering.number_near.Goals as goal

pub loop-near-preserved : goal.loop-near-preserved
loop-near-preserved c =
    let n = c.self.inside in
    let names = c.args.self.now in
    let lits = c.args.lits.now in
    let i = vec_len c.loop-near.known in
    let l = c.index-lits-len.result in
    let v = variable l in
    let near = c.near-near.result.now in
    let number = c.number_among.result in
    let inside : i < length lits = omega arith in
    let before = take i lits in
    let split = ap (λ k. take k lits) c.push_reserved.ensures.len ∙ take_is lits i inside l (c.index-lits-len.is ∙ ap (λ k. slice_index_or lits k l) c.len-in-loop-near.ensures) in
    let from = (c.in-Some.ensures.some.0 refl).0 in
    let some : number ≢ 0 = omega (arith, from) in
    let stands = number_near (at n.numbers) near c.near-near.ensures v number (search rules) some in
    let met_there = is_met (number_at n.numbers) n.count c.self.invariant.0 v (λ none. some (sym stands ∙ none)) in
    let met : has names v ≡ true = search rules in
    let number_there = number_is (number_at n.numbers) n.count c.self.invariant.0 v (λ none. some (sym stands ∙ none)) in
    let numbered : number_in names v ≡ number = search rules in
    let literal : c.in-Some.l ≡ renamed (number_in names) l = search rules in
    let pushed = with_names_push names before l in
    let same = same_names names v met in
    let mapped = map-append (renamed (number_in names)) before (l ∷ []) in
    record { met = search rules; literals = search rules; within = search (rules, arith); room = search (rules, arith) }
