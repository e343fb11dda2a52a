use Rattle.std.proofs.Common.{arith}
use Rattle.propagation.proofs.PropagationLemmas.Scan.{scan_empty, none_alone}
use Rattle.propagation.proofs.scan.Scan.new.Goals as goal

pub invariant_of-result : goal.invariant_of-result
invariant_of-result c = (grind (arith, scan_empty), grind (arith, none_alone))
