use Rattle.root_literals.proofs.RootLemmas.Kept.{entered_idle, entered_taken, entered_true}
use Rattle.root_literals.proofs.RootLemmas.Kept.{Entering, entered_false, entered_more, entered_set}
use Rattle.{cnf_base.specs.Literals.Literal, cnf_base.specs.Literals.has, tables.specs.ByKey.at}
use Rattle.std.proofs.Common.{arith, refl, true, ◌≡◌}
use Rattle.root_literals.proofs.roots.Roots.enter.Goals.{After-enter, Else-set_by}
use Rattle.root_literals.proofs.roots.Roots.enter.Goals as goal

-- the clause is entered where the history knows of it
entering-clause-kept : (c : After-enter) → Entering c.args.store.now.live c.args.slot c.clause-clause.result.now c.args.self.now c.args.assumptions.now.trail.lits c.args.left c.enter.new.self
entering-clause-kept c = grind arith

pub returns-then-has_conflict-clause-kept : goal.returns-then-has_conflict-clause-kept
returns-then-has_conflict-clause-kept c =
    let given = entering-clause-kept (goal.at.returns-then-has_conflict-clause-kept c).After-enter in
    entered_idle given _ refl refl refl (grind arith) refl

pub returns-in-More-clause-kept : goal.returns-in-More-clause-kept
returns-in-More-clause-kept c =
    let given = entering-clause-kept (goal.at.returns-in-More-clause-kept c).After-enter in
    entered_more given _ refl refl refl (grind arith) refl

pub returns-in-Nothing-clause-kept : goal.returns-in-Nothing-clause-kept
returns-in-Nothing-clause-kept c =
    let given = entering-clause-kept (goal.at.returns-in-Nothing-clause-kept c).After-enter in
    entered_false given _ refl refl refl (grind arith) (grind arith)

pub returns-then-set_by-clause-kept : goal.returns-then-set_by-clause-kept
returns-then-set_by-clause-kept c =
    let given = entering-clause-kept (goal.at.returns-then-set_by-clause-kept c).After-enter in
    entered_set given c.in-One.l (grind arith) _ refl refl (grind arith) (grind arith) (grind arith) _
    c.with_more-self.ensures (grind arith)

-- the literal is true already
true-clause-kept : (c : Else-set_by) → (c.set_by.new.assumptions.trail.lits ≡ c.args.assumptions.now.trail.lits) × (has c.args.assumptions.now.trail.lits c.in-One.l ≡ true)
    × ((k : Literal) → at c.set_by.new.reasons k ≡ at c.args.self.now.reasons k)
true-clause-kept c = grind arith

pub returns-then-clause-eq1-clause-kept : goal.returns-then-clause-eq1-clause-kept
returns-then-clause-eq1-clause-kept c =
    let given = entering-clause-kept (goal.at.returns-then-clause-eq1-clause-kept c).After-enter in
    let before = true-clause-kept (goal.at.returns-then-clause-eq1-clause-kept c).Else-set_by in
    rw before.0 (entered_taken given c.in-One.l (grind arith) _ refl refl (grind (arith, before.2)) before.1 c.if-clause-eq1.true refl)

pub returns-else-clause-eq1-clause-kept : goal.returns-else-clause-eq1-clause-kept
returns-else-clause-eq1-clause-kept c =
    let given = entering-clause-kept (goal.at.returns-else-clause-eq1-clause-kept c).After-enter in
    let before = true-clause-kept (goal.at.returns-else-clause-eq1-clause-kept c).Else-set_by in
    rw before.0 (entered_true given c.in-One.l (grind arith) _ refl refl before.1 refl before.2)
