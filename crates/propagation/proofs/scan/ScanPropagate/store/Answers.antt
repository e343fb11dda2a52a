use Rattle.{cnf_base.proofs.SetLemmas.same_itself, std.proofs.Common.{ap, arith, sym, ◌∙◌}}
use Rattle.std.specs.FinMap as maps
use Rattle.propagation.proofs.scan.ScanPropagate.store.Goals as goal

pub returns-clause-live : goal.returns-clause-live
returns-clause-live c =
    let view = ap (λ s. s.propagation.live) c.self.view_is in record {
      each = λ slot d at. (d, ap (λ live. maps.get live slot) (sym view) ∙ at, same_itself d);
      no_other = λ slot alive. grind arith;
    }
