use Rattle.std.proofs.Common.{◌≡◌, ◌<◌, length, set, get_or, sym, ap, ◌∙◌, arith}
use Rattle.std.proofs.lemmas.List.{get_or_default, get_or-set_same, get_or-set_other, length-set}
use Rattle.clause_index.specs.{Code.Chains.home, declared.link.Link.Link}
use Rattle.clause_index.proofs.IndexLemmas.PutIn.{put_chained}
use Rattle.clause_index.proofs.chains.put_in.Goals as goal

pub returns-clause-chained : goal.returns-clause-chained
returns-clause-chained c held old free =
    let links = c.args.links.now.items in
    let heads = c.args.heads.now.items in
    let slot = c.args.slot in
    let hash = c.args.hash in
    let at = c.home_of-home.result in
    let now : Link = record { hash = hash; next = c.index.result.now } in
    let len : c.len.result ≡ length heads = omega arith in
    let is : at ≡ home (length heads) hash = c.home_of-home.ensures.home ∙ ap (λ n. home n hash) len in
    let low : at < length heads = omega (arith, c.home_of-home.ensures.inside) in
    let blank : Link = record { hash = 0; next = 0 } in
    put_chained links _ heads _ held old slot hash free c.requires.some c.requires.inside c.requires.low
    (length-set links slot now)
    (length-set heads at slot)
    (ap (λ (l : Link). l.hash) (get_or-set_same links slot now blank c.requires.inside))
    (ap (λ (l : Link). l.next) (get_or-set_same links slot now blank c.requires.inside) ∙ c.index.ensures ∙ get_or_default heads at _ 0 low ∙ ap (λ n. get_or heads n 0) is)
    (λ s ne. get_or-set_other links slot s now blank ne)
    (ap (λ n. get_or (set heads at slot) n 0) (sym is) ∙ get_or-set_same heads at slot 0 low)
    (λ b ne. get_or-set_other heads at b slot 0 (λ e. ne (e ∙ is)))
