use Rattle.{cnf_base.proofs.WalkLemmas.take_is, numbering.proofs.NameLemmas.numbered_push}
use Rattle.{numbering.proofs.NameLemmas.with_names_push, std.proofs.Common.{arith, rules, take}}
use Rattle.numbering.proofs.numbering.Numbering.number_rest.Goals as goal

pub loop-i-preserved : goal.loop-i-preserved
loop-i-preserved c =
    let lits = c.args.lits.now in
    let l = c.index-lits-i.result in
    let split = take_is lits c.loop-i.i (omega arith) l c.index-lits-i.is in
    let names = with_names_push c.args.self.now (take c.loop-i.i lits) l in
    record {
      names = search (rules, arith);
      literals = search (rules, numbered_push);
      len = search (rules, arith);
      room = search (rules, arith);
    }
