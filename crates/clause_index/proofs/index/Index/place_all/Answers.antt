use Rattle.std.proofs.Common.{◌<◌, length, refl, sym, ap, ◌∙◌, subst, arith}
use Rattle.std.proofs.lemmas.List.{get_or_default}
use Rattle.clause_index.specs.{Code.Chains.ArePlaced, Code.Chains.hash_in, declared.link.Link.Link}
use Rattle.clause_index.proofs.IndexLemmas.Anew.{passes, puts}
use Rattle.clause_index.proofs.index.Index.place_all.Goals.{then-slot+then-link-slot, else-slot}
use Rattle.clause_index.proofs.index.Index.place_all.Goals.{else-slot-via-then-slot+else-link-slot, else-slot-via-else-slot}
use Rattle.clause_index.proofs.index.Index.place_all.Goals as goal

pub loop-slot-preserved : goal.loop-slot-preserved
loop-slot-preserved c =
    let so_far = c.loop-slot.invariant in
    let index = c.loop-slot.self in
    let links = index.links.items in
    let heads = index.heads.items in
    let i = c.loop-slot.slot in
    let blank : Link = record { hash = 0; next = 0 } in
    let inside : i < length links = let as_many = so_far.links in omega arith in
    let read = c.index-link.ensures ∙ get_or_default links i _ blank inside in
    elim c.if-slot.branch [
      | then-slot+then-link-slot w ↦ rw (w.self-is) (record {
        some = subst (λ n. 0 < n) (sym w.put_in.ensures.heads) so_far.some;
        seed = so_far.seed;
        heads = w.put_in.ensures.heads ∙ so_far.heads;
        links = w.put_in.ensures.links ∙ so_far.links;
        placed = refl;
        same = λ live old. puts links heads i (hash_in index.seed live) (subst (λ n. ArePlaced links heads n (hash_in index.seed live)) so_far.placed (so_far.same live old))
            c.index-link.result.now.hash (ap (λ (l : Link). l.hash) read) inside (λ e. w.if-link-slot.true (ap (λ (l : Link). l.next) read ∙ e))
            _ _ w.put_in.ensures.chained w.put_in.ensures.others w.put_in.ensures.links w.put_in.ensures.heads;
      })
      | else-slot w ↦ rw (w.self-is) (record {
        some = so_far.some;
        seed = so_far.seed;
        heads = so_far.heads;
        links = so_far.links;
        placed = refl;
        same = λ live old. passes links heads i (hash_in index.seed live) (subst (λ n. ArePlaced links heads n (hash_in index.seed live)) so_far.placed (so_far.same live old))
            (λ low. elim w.else-slot.branch [
              | else-slot-via-then-slot+else-link-slot v ↦ ap (λ (l : Link). l.next) (sym read) ∙ v.if-link-slot.false
              | else-slot-via-else-slot v ↦ (let high = v.if-slot.false in absurd (let wrong : ⊥ = omega arith in wrong))
            ]);
      })
    ]
