use Rattle.{proofs.proofs.WholeLemmas.whole_of, std.proofs.Common.{length, rules, ◌≡◌, ◌≤◌}}
use Rattle.std.proofs.lemmas.{Bool.Decides.nat_tests, Grind.common_steps}
use Rattle.proofs.proofs.drat_binary.whole.whole_literal.Goals as goal

pub returns : goal.returns
returns c =
    let bytes = c.args.bytes.now in let number = c.front-count.result in
    let lit = c.in_ok-lit.lit in let long : 4 ≤ length bytes = search rules in
    let few : number.count ≤ 4 = search rules in
    let same : lit ≡ number.value = search (rules, common_steps, nat_tests) in
    let least : 2 ≤ lit = search rules in let most : lit ≤ 536870911 = search rules in
    whole_of bytes long number lit c.front-count.ensures few (λ n is none. search (rules, is, none))
    same least most
