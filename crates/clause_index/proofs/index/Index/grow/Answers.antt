use Rattle.clause_index.{proofs.IndexLemmas.Anew.all_wait, specs.Code.Chains.{ArePlaced, hash_in}}
use Rattle.std.proofs.Common.{subst, sym}
use Rattle.clause_index.proofs.index.Index.grow.Goals as goal

pub returns-clause-same : goal.returns-clause-same
returns-clause-same c live old =
    let f = c.args.self.now in
    let heads = c.in_ok-self.ensures.items_if_clones_equal (λ e same. same) in
    c.place_all.ensures.same live (subst (λ hs. ArePlaced f.links.items hs 0 (hash_in f.seed live)) (sym heads)
    (all_wait f.links.items f.heads.items f.placed (hash_in f.seed live) old c.next_len.result c.next_len.ensures))
