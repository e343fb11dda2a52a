use Rattle.std.proofs.Common.{[], refl}
use Rattle.cnf_base.proofs.scanner.run.NameRun.begin.Goals as goal

pub returns : goal.returns
returns c = record {
  kept = c.push.ensures [] c.new.ensures;
  is_name = record { first = c.args.first; others = []; is = refl; begins = c.requires };
}
