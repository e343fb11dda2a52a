use Rattle.clause_index.proofs.IndexLemmas.Anew.{above_is, chained_none}
use Rattle.clause_index.specs.{Code.Chains.{AreChained, below, hash_in}, Hashes.hash}
use Rattle.std.proofs.Common.{None, ap, arith, option_map, subst, sym, ℕ, ◌∙◌, ◌≡◌}
use Rattle.std.{proofs.lemmas.Option.none-some, specs.Ordering.nat_cmp}
use Rattle.std.specs.FinMap as maps
use Rattle.clause_index.proofs.index.IndexIndexing.new.Goals as goal

pub returns : goal.returns
returns c =
    let none : (s : ℕ) → hash_in c.args.seed maps.empty s ≡ None = λ s. ap (option_map (hash c.args.seed)) (maps.get-empty nat_cmp s) in
    record {
      chained = subst (λ hs. AreChained c.new-2.result.items hs (below 0 (hash_in c.args.seed maps.empty))) (sym c.new.ensures.items) (chained_none c.new-2.result.items 0 _ (λ s. grind (arith, above_is)));
      waiting = λ s h le e. absurd (none-some h (sym (none s) ∙ e));
      vacant = grind arith;
    }
