use Rattle.{cnf_base.specs.Literals.Clause, std.proofs.Common.{IfOk, Some, arith, false, subst}}
use Rattle.{std.proofs.Common.◌≡◌, theory.specs.Propagation.IsRootReason}
use Rattle.std.specs.FinMap as maps
use Rattle.propagation.proofs.scan.ScanPropagate.is_root_reason.Goals as goal

pub returns-clause-yes : goal.returns-clause-yes
returns-clause-yes c = grind (arith, c.self.view_is, c.is_root_reason-found.ensures.yes)

pub returns-clause-no : goal.returns-clause-no
returns-clause-no c =
    subst (λ s. IfOk c.is_root_reason-found.result (λ is_reason. is_reason ≡ false → (d : Clause) → maps.get s.propagation.live c.args.slot ≡ Some d → ¬ IsRootReason (maps.get s.propagation.live) d)) c.self.view_is c.is_root_reason-found.ensures.no
