use Rattle.{cnf_base.specs.Literals.{complement, has}, live_clauses.specs.LiveClauses.Holds}
use Rattle.{std.proofs.Common.{[], drop, take, true, ℕ, ◌≡◌}, steps.specs.Code.Groups.named_in}
use Rattle.theory.specs.{Lrat.{groups_of, groups_refusal}, Sets.SameSet}
use Rattle.std.specs.FinMap as maps
use Rattle.steps.proofs.lrat.candidates.judge_groups.Given as goal

abbrev pub invariant-loop-i : goal.invariant-loop-i
invariant-loop-i l = record {
  refusal : groups_refusal (maps.get l.live.live) l.fn.trues.lits l.fn.pivot l.named
      (groups_of (drop l.i l.hints))
      ≡ groups_refusal (maps.get l.live.live) l.fn.trues.lits l.fn.pivot [] (groups_of l.hints);
  named : SameSet l.named (named_in (take l.i l.hints));
  hold : (k : ℕ) → has l.named k ≡ true → Holds (maps.get l.live.live) (complement l.fn.pivot) k;
  lits : l.trues.lits ≡ l.fn.trues.lits;
  reserved : SameSet l.trues.reserved l.fn.trues.reserved;
}
