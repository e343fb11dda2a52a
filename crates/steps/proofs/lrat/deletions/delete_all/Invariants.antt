use Rattle.std.proofs.Common.{◌≡◌, ◌≤◌, map, nat_abs, drop}
use Rattle.std.specs.FinMap as maps
use Rattle.theory.specs.Lrat.{without_ids, deletion_refusal}
use Rattle.steps.proofs.lrat.deletions.delete_all.Given as goal

abbrev pub invariant-loop-id : goal.invariant-loop-id
invariant-loop-id l = record {
  missing : deletion_refusal (maps.get l.live.live) (map nat_abs (drop l.id-index l.ids))
      ≡ deletion_refusal (maps.get l.fn.live.live) (map nat_abs l.ids);
  left : without_ids (maps.get l.live.live) (map nat_abs (drop l.id-index l.ids))
      ≡ without_ids (maps.get l.fn.live.live) (map nat_abs l.ids);
  top : l.live.top ≡ l.fn.live.top;
  fewer : l.live.stored ≤ l.fn.live.stored;
}
