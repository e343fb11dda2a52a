use Rattle.{std.proofs.Common.take, trail.specs.Trail.HasRoom}
use Rattle.trail.proofs.trail.Trail.has_room_near.Given as goal

abbrev pub invariant-loop-l : goal.invariant-loop-l
invariant-loop-l l = HasRoom l.fn.self.reserved (take l.l-index l.clause)
