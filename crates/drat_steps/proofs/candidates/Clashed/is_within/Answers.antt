use Rattle.{cnf_base.proofs.SetLemmas.all_each, std.proofs.{Common.◌≡◌, lemmas.Option.none-some}}
use Rattle.{std.{proofs.Common.{arith, rules}, specs.List.list_all}, trail.specs.LiteralSet.in_set}
use Rattle.std.proofs.lemmas.Iterator.{YieldsList-from_slice, Search.all_from_yields_List}
use Rattle.drat_steps.proofs.candidates.Clashed.is_within.Goals as goal

pub returns : goal.returns
returns c = λ is. let set = c.fill.new.self in let rest = c.deref.result.now in
    let each : c.all.result ≡ list_all (in_set set) rest = all_from_yields_List _ _ _ _
    c.all.ensures.ran (YieldsList-from_slice rest cc) (λ x b q k. search rules) in
    grind (arith, none-some, all_each)
