use Rattle.{occurrences.proofs.EntryLemmas.has_deduped, std.proofs.Common.{ap, eqb, sym, ◌∙◌}}
use Rattle.std.proofs.lemmas.List.{Filters.dedup_is, Sorted.list_any-IsPermutation}
use Rattle.std.{proofs.lemmas.Map.Keys.IsStrictlyIncreasing-dedup, specs.List.list_any}
use Rattle.occurrences.proofs.by_literal.order.Goals as goal

pub returns-clause-ascending : goal.returns-clause-ascending
returns-clause-ascending c = rw (dedup_is _ _ _ c.dedup.ensures.filtered) (IsStrictlyIncreasing-dedup _ c.sort_unstable.ensures.sorted)

pub returns-clause-same : goal.returns-clause-same
returns-clause-same c s =
    ap (list_any (λ k. eqb k s)) (dedup_is _ _ _ c.dedup.ensures.filtered)
    ∙ has_deduped c.sort_unstable.new.self.items s
    ∙ sym (list_any-IsPermutation (λ k. eqb k s) _ _ c.sort_unstable.ensures.permutation)
