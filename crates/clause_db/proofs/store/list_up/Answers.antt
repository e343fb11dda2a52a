use Rattle.clause_db.{proofs.StoreLemmas.Kept.insert_undone, specs.Code.Counts.AreCounted}
use Rattle.{cnf_base.{proofs.MapLemmas.insert_here, specs.Literals.Clause}, std.proofs.Common.None}
use Rattle.std.proofs.Common.{Option, Some, ap, arith, is_some, nat_cmp, refl, ℕ, ◌≡◌}
use Rattle.{std.specs.FinMap.FinMap, tables.specs.declared.by_key.ByKey.ByKey}
use Rattle.std.specs.FinMap as maps
use Rattle.clause_db.proofs.store.list_up.Goals as goal

-- ---- Counts that are taken back

module _ (slot : ℕ) (lits : Clause) (old with : Option (ByKey ℕ))
    (counted : (live : FinMap nat_cmp Clause) (s : ℕ) → AreCounted old live → maps.get live s ≡ None → AreCounted with (maps.insert live s lits)) where
  counted_there : (live : FinMap nat_cmp Clause) → AreCounted old live → maps.get live slot ≡ None →
      (m : FinMap nat_cmp Clause) × (s : ℕ) × AreCounted with m × (maps.get m s ≡ Some lits)
  counted_there live are free = (maps.insert live slot lits, slot, counted live slot are free, insert_here live slot slot lits refl)

  taken_back : (after : Option (ByKey ℕ))
      → ((live : FinMap nat_cmp Clause) (s : ℕ) → AreCounted with live → maps.get live s ≡ Some lits
      → AreCounted after (maps.remove live s)) → (live : FinMap nat_cmp Clause)
      → AreCounted old live → maps.get live slot ≡ None → AreCounted after live
  unfolding counted_there
  taken_back after removed live are free =
      let w = counted_there live are free in
      grind (arith, insert_undone)

pub count_out-requires-clause-there : goal.count_out-requires-clause-there
count_out-requires-clause-there g c =
    let w = c.requires.free in
    counted_there c.args.slot c.args.lits.now c.args.counts.now c.count_in.new.counts
    c.in_ok-count_in.ensures.ok w.0 w.2 w.3

pub returns-in-Err-clause-same_counts : goal.returns-in-Err-clause-same_counts
returns-in-Err-clause-same_counts g c =
    taken_back c.args.slot c.args.lits.now c.args.counts.now c.count_in.new.counts
    c.in_ok-count_in.ensures.ok c.count_out.new.counts c.count_out.ensures

pub count_out-requires-in-Err-add-clause-there : goal.count_out-requires-in-Err-add-clause-there
count_out-requires-in-Err-add-clause-there g c =
    let w = c.requires.free in
    counted_there c.args.slot c.args.lits.now c.args.counts.now c.count_in.new.counts
    c.in_ok-count_in.ensures.ok w.0 w.2 w.3

pub returns-in-Err-add-clause-same_counts : goal.returns-in-Err-add-clause-same_counts
returns-in-Err-add-clause-same_counts g c =
    taken_back c.args.slot c.args.lits.now c.args.counts.now c.count_in.new.counts
    c.in_ok-count_in.ensures.ok c.count_out-in-Err-add.new.counts c.count_out-in-Err-add.ensures

-- ---- Occurrences that are taken back

pub forget-requires : goal.forget-requires
forget-requires g c =
    let w = c.requires.free in
    let lits = c.args.lits.now in
    (maps.insert w.0 c.args.slot lits, c.in_default.ensures.ok w.0 w.1 w.3, ap is_some (insert_here w.0 c.args.slot c.args.slot lits refl))

pub returns-in-Err-add-clause-same_kept : goal.returns-in-Err-add-clause-same_kept
returns-in-Err-add-clause-same_kept g c live kept free = grind (arith, insert_undone)
