use Rattle.std.proofs.Common.{◌≡◌, ℕ, ◌+◌, ◌<◌, length, vec_len, refl, sym, ap, ◌∙◌, arith}
use Rattle.clause_index.specs.{Code.Chains.hash_in, Code.Chains.link_at, declared.link.Link.Link}
use Rattle.clause_index.proofs.IndexLemmas.Longer.{longer}
use Rattle.clause_index.proofs.index.Index.reach.Goals as goal

pub loop-next-preserved : goal.loop-next-preserved
loop-next-preserved c =
    let index = c.loop-next.self in
    let links = index.links.items in
    let more = c.push.new.self.items in
    let so_far = c.loop-next.invariant in
    let len = so_far.len in
    let at = c.in_ok-push.ensures.by_index in
    let len_is : length links ≡ vec_len index.links = omega arith in
    let long : length more ≡ length links + 1 = let grown = c.in_ok-push.ensures.len in omega arith in
    let same : (s : ℕ) → s < length links → link_at more s ≡ link_at links s = λ s low. at.0 s _ (omega arith) in
    let last : (link_at more (length links)).next ≡ length links = ap (λ n. (link_at more n).next) len_is ∙ ap (λ (l : Link). l.next) (at.1 _ refl) ∙ sym len in
    record {
      len = long ∙ ap (λ n. n + 1) len;
      heads = so_far.heads;
      placed = so_far.placed;
      seed = so_far.seed;
      same = λ live old. longer links more index.heads.items index.placed (hash_in index.seed live) (so_far.same live old) long same last;
    }
