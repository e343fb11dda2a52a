-- A deletion, after which the clauses that are left may stand elsewhere.
use Rattle.{cnf_base.specs.Literals.{Clause, Literal}, proofs.specs.Steps.Step}
use Rattle.std.proofs.Common.{List, Ok, arith, refl, rules, ◌∙◌, ◌≡◌}
use Rattle.steps.{proofs.StateLemmas.keeps_taken, specs.Code.Naming.with_lits}
use Rattle.theory.specs.{Drat.{SameLive, after_drat, delete}, Rules.{Same, after, by_copies}}
use Rattle.theory.specs.declared.{accepted.Accepted.Accepted, drat_rules.DratRules.DratRules}
use Rattle.proofs.specs.declared.step_buf.StepKind.TheVariants as kinds
use Rattle.std.specs.FinMap as maps
use Rattle.steps.proofs.drat.DratJudgeJudge.step.Goals as goal

pub returns-in-Add-clause-keeps_models : goal.returns-in-Add-clause-keeps_models
returns-in-Add-clause-keeps_models g c =
    let state = λ (p : g.row.P.Denot). by_copies c.args.self.now.rules (maps.values (g.P.Propagate.state p).live) in
    keeps_taken (state c.args.self.now.checker.clauses) (state c.add.new.self.clauses) (with_lits c.args.lits.now c.args.step.now) c.add.result (search rules) (search rules)

taken_off : (r : DratRules) (old left gathered : List Clause) (lits : List Literal) (step : Step) (word : Accepted) → step.kind ≡ kinds.Delete → SameLive left (after_drat old (delete lits) word)
    → SameLive gathered left → Same (by_copies r gathered) (after (by_copies r old) (with_lits lits step) word)
taken_off r old left gathered lits step word is same together =
    (refl, rw is (record { copies = λ e. together.copies e ∙ same.copies e }))

pub returns-in_ok-word-in-Delete-clause-state : goal.returns-in_ok-word-in-Delete-clause-state
returns-in_ok-word-in-Delete-clause-state g c = grind (arith, taken_off)

pub returns-in_ok-word-in-Delete-clause-keeps_models : goal.returns-in_ok-word-in-Delete-clause-keeps_models
returns-in_ok-word-in-Delete-clause-keeps_models g c =
    let state = λ (p : g.row.P.Denot). by_copies c.args.self.now.rules (maps.values (g.P.Propagate.state p).live) in
    let word = c.in_ok-word-in-Delete.word in
    keeps_taken (state c.args.self.now.checker.clauses) (state c.gather-stay.new.self) (with_lits c.args.lits.now c.args.step.now) (Ok word) (search rules)
    (grind (arith, taken_off))
