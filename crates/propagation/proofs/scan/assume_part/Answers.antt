use Rattle.{cnf_base.specs.Literals.complements, std.proofs.Common.{filter, sym, ◌∙◌, ◌≡◌}}
use Rattle.propagation.proofs.PropagationLemmas.{Exact.{begins_on, longer_from}, Scan.part_exact}
use Rattle.propagation.proofs.PropagationLemmas.Scan.{no_roots, part_answer, part_clashes}
use Rattle.{propagation.proofs.PropagationLemmas.Scan.scan_after, std.proofs.Common.{[], arith}}
use Rattle.std.specs.FinMap as maps
use Rattle.propagation.proofs.scan.assume_part.Goals as goal

pub returns-in_err-assume-clause-assumed : goal.returns-in_err-assume-clause-assumed
returns-in_err-assume-clause-assumed g c = grind arith

pub returns-then-branch-clause-assumed : goal.returns-then-branch-clause-assumed
returns-then-branch-clause-assumed g c = let e = c.in_ok-assume.ensures in record {
  answer = part_clashes _ (λ ls. ls ≡ []) (no_roots _) _ c.assume.new.self _ c.requires.may c.requires.scan (sym e.conflict ∙ c.if-branch.true);
  stands = grind arith;
  stays = tt;
}

pub returns : goal.returns
returns g c =
    let live = c.args.store.now.live in let before = c.args.assumptions.now in
    let after = c.assume.new.self in let last = c.answer.new.self in
    let added = complements (filter (g.P.Part.keeps c.args.part.now) c.args.clause.now) in
    let e = c.in_ok-assume.ensures in let p = c.propagate-answer.ensures in
    let same = simp c.if-branch.false at e.added in
    let alike = simp c.if-branch.false at e.assumed.2 in
    let stand = c.answer.ensures.assumptions _ _ (p.extends.assumptions ∙ e.assumed.1) in
    let begins = begins_on _ _ _ e.begins (grind (arith, longer_from)) p.extends.begins in
    let none = no_roots (maps.get live) in let scan = c.requires.scan in record {
      assumed = grind (arith, part_answer, no_roots);
      scan = scan_after live (λ ls. ls ≡ []) none before after added c.requires.may scan last _ _ stand
          (grind arith) (grind arith) (grind arith) (λ quiet. simp c.answer.ensures.trail
          (part_exact live (λ ls. ls ≡ []) none before after added c.requires.may scan same _ _ alike p.extends.begins p.sound (p.closed quiet)));
    }
