use Rattle.std.proofs.Common.{false, length, nat_abs, pos, slice_index_or, take, ◌+◌, ◌<◌, ◌≡◌, ◌≤◌}
use Rattle.{std.proofs.Common.drop, std.specs.Option.option_copied, steps.proofs.LratLemmas.Gives}
use Rattle.theory.specs.{Lrat.chain, Lrat.units_of, Sets.SameSet, Sets.conflicts}
use Rattle.std.specs.FinMap as maps
use Rattle.steps.proofs.lrat.walk.walk.Given as goal

abbrev pub invariant-loop-i : goal.invariant-loop-i
invariant-loop-i l = record {
  so_far : Gives (chain (maps.get l.live.live) l.trues.lits (units_of (drop l.i l.hints)))
      (chain (maps.get l.live.live) l.fn.trues.lits (units_of l.hints));
  quiet : conflicts l.trues.lits ≡ false;
  begins : take (length l.fn.trues.lits) l.trues.lits ≡ l.fn.trues.lits;
  longer : length l.fn.trues.lits ≤ length l.trues.lits;
  next : l.i < length l.hints → option_copied l.next
      ≡ maps.get l.live.live (nat_abs (slice_index_or l.hints l.i (pos 0)));
  after : l.i + 1 < length l.hints → option_copied l.after
      ≡ maps.get l.live.live (nat_abs (slice_index_or l.hints (l.i + 1) (pos 0)));
  reserved : SameSet l.trues.reserved l.fn.trues.reserved;
}
