use Rattle.std.proofs.{Common.arith, Common.inl, Common.inr, lemmas.Bool.cases_eq}
use Rattle.ids.{specs.Code.Ids.page_at, proofs.IdLemmas.Map.page_within}
use Rattle.ids.proofs.map.next_number.Goals as goal

pub returns-else-least-clause-some : goal.returns-else-least-clause-some
returns-else-least-clause-some c =
    let d = c.args.directory.now in
    let numbers = c.args.pages.now.numbers.items in
    let found = c.loop-i.invariant.found c.if-least.false in
    record {
      above = omega (arith, found.0);
      below = omega (arith, c.loop-i.invariant.fits);
      there = found.1;
      before = λ k above low. elim (cases_eq (page_at d k) 0) [
        | inl none ↦ none
        | inr some ↦
            let own = (c.requires.owned k some).0 in
            let within = page_within (page_at d) numbers c.requires.owned k some in grind arith
      ];
    }
