use Rattle.{std.proofs.Common.◌≡◌, steps.proofs.LratLemmas.Passed, theory.specs.Sets.SameSet}
use Rattle.std.specs.FinMap as maps
use Rattle.steps.proofs.lrat.candidates.first_unnamed.Given as goal

abbrev pub invariant-loop-id : goal.invariant-loop-id
invariant-loop-id l = record {
  passed : Passed (maps.get l.live.live) l.fn.trues.lits l.pivot l.named l.ids l.id-index;
  lits : l.trues.lits ≡ l.fn.trues.lits;
  reserved : SameSet l.trues.reserved l.fn.trues.reserved;
}
