use Rattle.std.proofs.Common.{◌≡◌, ◌≤◌, length, take}
use Rattle.root_literals.proofs.history.History.rewind.Given as goal

abbrev pub invariant-loop-trues : goal.invariant-loop-trues
invariant-loop-trues l = record {
  floor : l.self.floor ≡ l.fn.self.floor;
  doubts : l.self.doubts ≡ l.fn.self.doubts;
  fewer : length l.self.visited.items ≤ length l.fn.self.visited.items;
  front : l.self.visited.items ≡ take (length l.self.visited.items) l.fn.self.visited.items;
}

abbrev pub decreases-loop-trues : goal.decreases-loop-trues
decreases-loop-trues l = length l.self.visited.items
