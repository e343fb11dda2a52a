use Rattle.clause_index.{proofs.IndexLemmas.Chains.few, specs.Code.Chains.{home, link_at}}
use Rattle.clause_index.proofs.IndexLemmas.Found.{IsNot, chain_inside, chain_low, chain_of}
use Rattle.clause_index.proofs.IndexLemmas.{Found.{in_chain, other_hash}, Walks.searches_on}
use Rattle.clause_index.proofs.IndexLemmas.Walks.{IsSearched, found_in, search_ends, search_over}
use Rattle.clause_index.proofs.index.Index.find_placed.Goals.{else-link-key-via-else-link-key}
use Rattle.clause_index.proofs.index.Index.find_placed.Goals.{else-link-key-via-then-link-key+else-is_at}
use Rattle.{clause_index.specs.declared.link.Link.Link, std.proofs.lemmas.List.get_or_default}
use Rattle.std.proofs.Common.{ap, arith, length, subst, sym, ◌+◌, ◌∙◌, ◌≡◌}
use Rattle.clause_index.proofs.index.Index.find_placed.Goals as goal

pub returns-then-at-clause-none : goal.returns-then-at-clause-none
returns-then-at-clause-none g c live s k sound placed is alike =
    let index = c.args.self.now in
    let key = c.args.key in
    search_ends index.links.items (chain_of index live sound key) (IsNot index.seed live key (g.T.Sought.is c.args.sought.now)) c.loop-step._step c.loop-step.at
    (c.loop-step.invariant live sound) c.if-at.true (chain_low index live sound key) s (grind (arith, in_chain)) k is alike

pub index-link-requires : goal.index-link-requires
index-link-requires g c =
    let index = c.args.self.now in
    let key = c.args.key in
    let live = c.requires.indexes.0 in
    let sound = c.requires.indexes.1 in
    let there = found_in index.links.items (chain_of index live sound key) (IsNot index.seed live key (g.T.Sought.is c.args.sought.now)) c.loop-step._step c.loop-step.at
    (c.loop-step.invariant live sound) c.if-at.false
    in
    grind (arith, chain_inside)

pub loop-step-preserved : goal.loop-step-preserved
loop-step-preserved g c live sound =
    let index = c.args.self.now in
    let links = index.links.items in
    let key = c.args.key in
    let at = c.loop-step.at in
    let is = g.T.Sought.is c.args.sought.now in
    let chain = chain_of index live sound key in
    let so_far = c.loop-step.invariant live sound in
    let inside = chain_inside index live sound key at (found_in links chain (IsNot index.seed live key is) c.loop-step._step at so_far c.if-at.false) in
    let blank : Link = record { hash = 0; next = 0 } in
    let read : c.index-link.result.now ≡ link_at links at = c.index-link.ensures ∙ get_or_default links at _ blank inside in
    let tested : IsNot index.seed live key is at = elim c.else-link-key.branch [
      | else-link-key-via-then-link-key+else-is_at w ↦ λ d there alike. sym w.is_at.ensures ∙ w.if-is_at.false
      | else-link-key-via-else-link-key w ↦ other_hash index live sound key at is (λ e. w.if-link-key.false (ap (λ (l : Link). l.hash) read ∙ e))
    ] in
    subst (IsSearched links chain (IsNot index.seed live key is) (c.loop-step._step + 1)) (sym (ap (λ (l : Link). l.next) read))
    (searches_on links chain (IsNot index.seed live key is) c.loop-step._step at so_far c.if-at.false tested)

pub returns-clause-none : goal.returns-clause-none
returns-clause-none g c live s k sound placed is alike =
    let index = c.args.self.now in
    let key = c.args.key in
    let chain = chain_of index live sound key in
    let most = few chain (length index.links.items) (sound.chained.apart (home (length index.heads.items) key)) (chain_inside index live sound key) in
    search_over index.links.items chain (IsNot index.seed live key (g.T.Sought.is c.args.sought.now)) c.loop-step._step c.loop-step.at
    (c.loop-step.invariant live sound) (omega arith) s (grind (arith, in_chain)) k is alike
