use Rattle.clause_index.proofs.IndexLemmas.{Anew.all_chained, TakeOut.{first_removed, next_removed}}
use Rattle.{clause_index.proofs.IndexLemmas.Chains.home_below, std.proofs.Common.{◌<◌, ◌∙◌, ◌≡◌}}
use Rattle.clause_index.proofs.IndexLemmas.{Whole.held_less}
use Rattle.clause_index.proofs.index.IndexIndexing.remove.Goals.{in-None, in-Some}
use Rattle.clause_index.specs.{Code.Chains.{AreLinked, hash_in, home, link_at}, Hashes.hash}
use Rattle.{clause_index.specs.declared.link.Link.Link, std.proofs.lemmas.List.get_or_default}
use Rattle.std.proofs.Common.{Some, ap, arith, get_or, length, length-set, option_map, refl, set}
use Rattle.clause_index.proofs.index.IndexIndexing.remove.Goals as goal

pub returns : goal.returns
returns c live indexed there =
    let index = c.place_all.new.self in
    let links = index.links.items in
    let heads = index.heads.items in
    let slot = c.args.slot in
    let key = hash index.seed c.args._lits.now in
    let held = hash_in index.seed live in
    let sound = c.place_all.ensures.same live indexed in
    let all = c.place_all.ensures.all in
    let old = all_chained links heads index.placed held sound all in
    let is_held : held slot ≡ Some key = ap (option_map (hash index.seed)) there in
    let same = held_less index.seed live slot in
    let blank : Link = record { hash = 0; next = 0 } in
    let here = home (length heads) key in
    let inside = old.inside slot key is_held in
    let read : c.index-link.result.now ≡ link_at links slot =
    c.index-link.ensures ∙ get_or_default links slot _ blank inside in
    let next = c.index-link.result.now.next in
    let next_is : next ≡ (link_at links slot).next = grind arith in
    let at = c.home_of-home.result in
    let is : at ≡ here = grind (arith, old.hashes slot key is_held) in
    let first : c.index.result.now ≡ get_or heads here 0 = grind (arith, get_or_default) in
    let linked_from : AreLinked c.deref.result.now c.index.result.now (old.chain here) =
    rw (c.deref.ensures.value, first) (old.linked here (grind (arith, home_below, old.some slot key))) in
    elim c.match-before.branch [
      | in-None w ↦
          let last : Link = record { hash = c.index_mut-2.result.now.hash; next = slot } in
          let kept : last.hash ≡ (link_at links slot).hash = grind (arith, get_or_default) in
          rw (w.self-is) (first_removed links heads index.placed held _ sound all slot key is_held same last refl next next_is at is kept (grind arith))
      | in-Some w ↦
          let p = w.in-Some.other in
          let p_is = w.in-Some.ensures.some (old.chain here) linked_from (old.apart here) (old.there slot key is_held) in
          let p_next : (link_at links p).next ≡ slot = grind arith in
          let back = old.back here p p_is.0 in
          let p_inside = old.inside p back.0 back.1 in
          let over : Link = record { hash = w.index_mut.result.now.hash; next = next } in
          let over_hash : over.hash ≡ (link_at links p).hash = grind (arith, get_or_default) in
          let last : Link = record { hash = c.index_mut-2.result.now.hash; next = slot } in
          let mid_inside : slot < length (set links p over) = grind (arith, length-set) in
          let kept : last.hash ≡ (link_at (set links p over) slot).hash = grind (arith, get_or_default) in
          rw (w.self-is) (next_removed links heads index.placed held _ sound all slot key is_held same last refl next next_is p p_is.0 p_next over over_hash refl kept)
    ]
