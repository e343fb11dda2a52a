use Rattle.drat_steps.proofs.DratLemmas.{Losses.{noted_now, unlost}, Steps.kept_ignored}
use Rattle.drat_steps.proofs.DratLemmas.{Steps.not_kept_deleted, Terms.Clauses}
use Rattle.std.proofs.Common.{ap, arith, subst, true, ◌↔◌, ◌∙◌, ◌≡◌}
use Rattle.theory.specs.{Losses.DeleteLoses, declared.accepted.Accepted.TheVariants.Deleted}
use Rattle.std.specs.FinMap as maps
use Rattle.drat_steps.proofs.deletion.delete.Goals as goal

pub returns-then-branch-clause-answers : goal.returns-then-branch-clause-answers
returns-then-branch-clause-answers g c =
    kept_ignored (g.P.Propagate.state c.args.clauses.now) _ c.in-Some.ensures.same c.args.rules
    c.args.lits.now c.in-Some.slot c.in-Some.ensures.found
    (λ d there. (c.if-rules-2.true, c.in_ok-is_root_reason.ensures.yes c.if-branch.true d there))

-- ---- Where units are kept

pub returns-then-rules-2-clause-answers : goal.returns-then-rules-2-clause-answers
returns-then-rules-2-clause-answers g c =
    not_kept_deleted _ _ c.in-Some.ensures.same c.args.rules _ _ c.in-Some.ensures.found
    (λ d there kept. c.in_ok-is_root_reason.ensures.no c.if-branch.false d there kept.1)

pub returns-then-rules-2-clause-lost : goal.returns-then-rules-2-clause-lost
returns-then-rules-2-clause-lost g c =
    unlost _ _ _ _ _ c.in-Some.ensures.same c.in-Some.ensures.found
    (c.in_ok-is_root_reason.ensures.no c.if-branch.false)

-- ---- Where a loss was noted

pub returns-then-has_lost_literal-clause-answers : goal.returns-then-has_lost_literal-clause-answers
returns-then-has_lost_literal-clause-answers g c =
    let s = c.in-Some.ensures in not_kept_deleted _ _ s.same c.args.rules _ _ s.found (grind arith)

-- ---- Where none was, and the clause is no reason

pub returns-then-not-branch-clause-answers : goal.returns-then-not-branch-clause-answers
returns-then-not-branch-clause-answers g c =
    let s = c.in-Some.ensures in not_kept_deleted _ _ s.same c.args.rules _ _ s.found (grind arith)

pub returns-then-not-branch-clause-lost : goal.returns-then-not-branch-clause-lost
returns-then-not-branch-clause-lost g c =
    unlost _ _ _ _ _ c.in-Some.ensures.same c.in-Some.ensures.found
    (c.in_ok-is_root_reason-2.ensures.no c.if-not-branch.true)

-- ---- Where none was, and the clause is one

pub returns-clause-answers : goal.returns-clause-answers
returns-clause-answers g c =
    let s = c.in-Some.ensures in not_kept_deleted _ _ s.same c.args.rules _ _ s.found (grind arith)

pub returns-clause-lost : goal.returns-clause-lost
returns-clause-lost g c =
    let found = c.in-Some.ensures.found in let lits = c.args.lits.now in
    let told = c.in_ok-has_lost_literal.field-0 in
    let Tells = λ (m : Clauses). (told ≡ true) ↔ DeleteLoses (maps.values m) lits Deleted in
    let same = c.in_ok-is_root_reason-2.ensures.live ∙ ap (λ s. s.live) c.in-Some.ensures.same in
    let there = ap (λ m. maps.get m c.in-Some.slot) same ∙ found.1 in
    noted_now c.args.has_lost_literal.now told _ c.if-has_lost_literal.false
    (subst Tells same (c.in_ok-has_lost_literal.ensures.loses found.0 lits there found.2))
