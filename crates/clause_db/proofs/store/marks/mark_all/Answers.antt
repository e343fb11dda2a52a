use Rattle.clause_db.proofs.StoreLemmas.Marks.{digest_kept, digest_more, mark_more}
use Rattle.clause_db.proofs.store.marks.mark_all.Goals.{else-set_mark, then-set_mark}
use Rattle.clause_index.proofs.IndexLemmas.Hashes.{hash_whole, mixed_none}
use Rattle.{cnf_base.specs.Literals.has, std.proofs.Common.{arith, not, sym, take, ℕ, ◌∙◌, ◌≡◌}}
use Rattle.std.proofs.lemmas.Bool.{not-false, not-true}
use Rattle.clause_db.proofs.store.marks.mark_all.Goals as goal

pub loop-l-init : goal.loop-l-init
loop-l-init c = grind (arith, mixed_none)

pub loop-l-preserved : goal.loop-l-preserved
loop-l-preserved c =
    let lits = c.args.lits.now in
    let i = c.loop-l.l-index in
    let so_far = c.loop-l.invariant in
    let x = c.l-item.result in
    let inside = c.loop-l-test.true in
    let was : c.set_mark.result ≡ not (has (take i lits) x) = grind (arith, not) in
    let marked = λ (k : ℕ).
    mark_more lits i inside x c.l-item.is k _ _ (c.set_mark.ensures.marked k) (so_far.marked k)
    in
    let known = λ (k : ℕ). c.set_mark.ensures.known k ∙ so_far.known k in
    elim c.if-set_mark.branch [
      | then-set_mark w ↦
          let new = not-true (has (take i lits) x) (sym was ∙ w.if-set_mark.true) in
          let digest =
          digest_more c.args.seed lits i inside x c.l-item.is c.loop-l.len c.loop-l.sum
          so_far.digest new
          in
          record { marked = marked; known = known; digest = rw (w.len-is, w.sum-is, w.mixed-sum.ensures) digest }
      | else-set_mark w ↦
          let old = not-false (has (take i lits) x) (sym was ∙ w.if-set_mark.false) in
          let digest =
          digest_kept c.args.seed lits i inside x c.l-item.is c.loop-l.len c.loop-l.sum
          so_far.digest old
          in
          record { marked = marked; known = known; digest = rw (w.len-is, w.sum-is) digest }
    ]

pub returns-clause-hash : goal.returns-clause-hash
returns-clause-hash c = grind (arith, hash_whole)
