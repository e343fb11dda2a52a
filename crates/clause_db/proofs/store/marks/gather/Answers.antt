use Rattle.clause_db.proofs.StoreLemmas.Marks.{gather_more, has_kept, marked_new, marked_old}
use Rattle.clause_db.proofs.StoreLemmas.Marks.{push_different, push_same}
use Rattle.clause_db.proofs.store.marks.gather.Goals.{else-clear_mark, then-clear_mark}
use Rattle.{cnf_base.{proofs.WalkLemmas.is_in, specs.Literals.{has, size}}, std.proofs.Common.ap}
use Rattle.std.proofs.Common.{arith, false, length, not, sym, take, true, ℕ, ◌&&◌, ◌<◌, ◌∙◌, ◌≡◌}
use Rattle.clause_db.proofs.store.marks.gather.Goals as goal

pub loop-l-preserved : goal.loop-l-preserved
loop-l-preserved c =
    let lits = c.args.lits.now in
    let i = c.loop-l.l-index in
    let x = c.l-item.result in
    let inside : i < length lits = omega arith in
    let was : c.clear_mark.result ≡ (has lits x && not (has (take i lits) x)) = grind arith in
    let marked = λ (k : ℕ). gather_more lits i inside x c.l-item.is k _ _ (c.clear_mark.ensures.marked k) (c.loop-l.invariant.marked k) in
    let known = λ (k : ℕ). c.clear_mark.ensures.known k ∙ c.loop-l.invariant.known k in
    elim c.if-clear_mark.branch [
      | then-clear_mark w ↦
          let new : has (take i lits) x ≡ false = marked_new (has lits x) (has (take i lits) x) (sym was ∙ w.if-clear_mark.true) in
          let items_are = ap (λ v. v.items) w.kept-is ∙ w.push_reserved.ensures.items in
          record {
            items = λ k. ap (λ ls. has ls k) items_are ∙ push_same lits i inside x c.l-item.is c.loop-l.kept.items c.loop-l.invariant.items new k;
            different = ap size items_are ∙ push_different lits i inside x c.l-item.is c.loop-l.kept.items c.loop-l.invariant.items new c.loop-l.invariant.different ∙ ap length (sym items_are);
            marked = marked;
            known = known;
            room = ap (λ v. v.cap) w.kept-is ∙ w.push_reserved.ensures.capacity ∙ c.loop-l.invariant.room;
          }
      | else-clear_mark w ↦
          let old : has (take i lits) x ≡ true = marked_old (has lits x) (has (take i lits) x) (is_in lits i inside x c.l-item.is) (sym was ∙ w.if-clear_mark.false) in
          record {
            items = λ k. ap (λ v. has v.items k) w.kept-is ∙ c.loop-l.invariant.items k ∙ sym (has_kept lits i inside x c.l-item.is old k);
            different = ap (λ v. size v.items) w.kept-is ∙ c.loop-l.invariant.different ∙ ap (λ v. length v.items) (sym w.kept-is);
            marked = marked;
            known = known;
            room = ap (λ v. v.cap) w.kept-is ∙ c.loop-l.invariant.room;
          }
    ]
