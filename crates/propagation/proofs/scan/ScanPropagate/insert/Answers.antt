use Rattle.std.proofs.Common.{arith}
use Rattle.propagation.proofs.PropagationLemmas.Scan.{scan_with, held_reserved, room_inserted}
use Rattle.propagation.proofs.scan.ScanPropagate.insert.Goals as goal

pub invariant_of-self-2 : goal.invariant_of-self-2
invariant_of-self-2 c =
    let e = c.reserve.ensures in let put = c.insert.ensures in
    let roomy = held_reserved _ _ _ c.reserve.new.self e.lits e.assumptions e.starts e.reserved c.self.invariant.0 in
    let room = room_inserted _ _ _ _ _ roomy.room c.in_ok-reserve.ensures.room put.stored put.others put.err_live in
    (grind (arith, scan_with), put.live_alone)
