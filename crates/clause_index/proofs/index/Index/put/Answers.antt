use Rattle.clause_index.proofs.IndexLemmas.{Added.{comes_in, waits}, Anew.{above_is, below_is}}
use Rattle.clause_index.{proofs.IndexLemmas.Anew.chained_kept, specs.Code.Chains.{below, link_at}}
use Rattle.{clause_index.specs.declared.link.Link.Link, std.proofs.Common.{ap, arith, refl, set}}
use Rattle.std.proofs.{Common.{sym, ℕ, ◌∙◌, ◌≡◌, ◌≢◌}, lemmas.List.get_or-set_other}
use Rattle.std.proofs.lemmas.{List.{get_or-set_same, length-set}, Option.none-some}
use Rattle.clause_index.proofs.index.Index.put.Goals as goal

pub returns-then-slot-self-clause-indexed : goal.returns-then-slot-self-clause-indexed
returns-then-slot-self-clause-indexed c held now old free here rest =
    let index = c.args.self.now in
    let slot = c.args.slot in
    comes_in index.links.items c.put_in.new.links.items index.heads.items c.put_in.new.heads.items index.placed held now old slot c.args.hash here rest
    c.put_in.ensures.links c.put_in.ensures.heads c.put_in.ensures.others c.if-slot-self.true
    (grind (arith, below_is))

pub returns-else-slot-self-clause-indexed : goal.returns-else-slot-self-clause-indexed
returns-else-slot-self-clause-indexed c held now old free here rest =
    let index = c.args.self.now in
    let links = index.links.items in
    let heads = index.heads.items in
    let slot = c.args.slot in
    let last : Link = record { hash = c.args.hash; next = 4294967295 } in
    let after = set links slot last in
    let blank : Link = record { hash = 0; next = 0 } in
    let own : link_at after slot ≡ last = get_or-set_same links slot last blank c.requires.inside in
    let others : (s : ℕ) → s ≢ slot → link_at after s ≡ link_at links s = λ s ne. get_or-set_other links slot s last blank ne in
    let as_many = length-set links slot last in
    let inside = c.requires.inside in
    let waiting = c.if-slot-self.false in
    waits links after heads heads index.placed held now old slot c.args.hash here rest as_many refl others waiting
    (chained_kept links after heads (below index.placed held) old.chained (omega arith) (λ s h e. others s (λ eq. none-some h (sym (above_is held index.placed s (omega arith)) ∙ e))))
    (record {
      inside = omega arith;
      low = c.requires.low;
      some = c.requires.some;
      other = λ e. let low = c.requires.low in let is = ap (λ (l : Link). l.next) own in omega arith;
      hash = ap (λ (l : Link). l.hash) own;
    })
