use Rattle.clause_db.proofs.StoreLemmas.Marks.{mark_more, size_kept, size_more}
use Rattle.clause_db.proofs.store.marks.mark_new.Goals.{else-branch, then-branch}
use Rattle.{cnf_base.proofs.WalkLemmas.{has_more}, std.proofs.Common.arith}
use Rattle.clause_db.proofs.store.marks.mark_new.Goals as goal

pub loop-l-preserved : goal.loop-l-preserved
loop-l-preserved c =
    let lits = c.args.lits.now in
    let i = c.loop-l.l-index in
    let is = c.l-item.is in
    let inside = c.loop-l-test.true in
    let x = c.l-item.result in
    let more = mark_more lits i inside x is in
    let more_has = has_more lits i inside x is in
    elim c.if-branch.branch [
      | then-branch w ↦ let more_size = size_more lits i inside x is in grind (arith, more, more_has, more_size)
      | else-branch w ↦ let same_size = size_kept lits i inside x is in grind (arith, more, more_has, same_size)
    ]
