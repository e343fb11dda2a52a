use Rattle.std.proofs.Common.{◌∙◌, arith}
use Rattle.cnf_base.proofs.{SetLemmas.any_from, WalkLemmas.has_take, SizeLemmas.has_at}
use Rattle.clause_db.proofs.StoreLemmas.{Marks.mark_more, Tautologies.none_so_far}
use Rattle.clause_db.proofs.store.marks.mark_up_to_complement.Goals as goal

pub loop-l-preserved : goal.loop-l-preserved
loop-l-preserved c =
    let lits = c.args.lits.now in let so_far = c.loop-l.invariant in record {
      marked = λ k. mark_more lits _ c.loop-l-test.true _ c.l-item.is k _ _
          (c.set_mark.ensures.marked k) (so_far.marked k);
      known = λ k. c.set_mark.ensures.known k ∙ so_far.known k;
      none = none_so_far lits _ c.loop-l-test.true _ c.l-item.is so_far.none (grind arith);
    }

pub returns-then-is_set-clause-yes : goal.returns-then-is_set-clause-yes
returns-then-is_set-clause-yes c = grind (arith, any_from, has_at, has_take)

pub returns-then-is_set-clause-some : goal.returns-then-is_set-clause-some
returns-then-is_set-clause-some c k marked = grind (arith, has_take)
