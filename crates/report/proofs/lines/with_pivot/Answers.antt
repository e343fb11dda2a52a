-- The pieces in turn.
use Rattle.{report.specs.Lines.sign_text, std.proofs.Common.{List, codes, decimal, rules, subst, ℕ}}
use Rattle.std.{proofs.Common.{◌++◌, ◌/◌, ◌≡◌}, specs.Prelude.IfOk}
use Rattle.report.proofs.lines.with_pivot.Goals as goal

pub returns : goal.returns
returns c =
    let first : c.in_ok-text.field-0 ≡ c.args.line ++ codes "neither RUP nor RAT on " = c.in_ok-text.ensures in
    let second : c.in_ok-text-2.field-0 ≡ c.in_ok-text.field-0 ++ c.sign_text.result.now = c.in_ok-text-2.ensures in
    let sign : c.sign_text.result.now ≡ sign_text c.args.pivot = c.sign_text.ensures in
    let variable : c.from-variable.result ≡ c.args.pivot / 2 = search rules in
    let whole : c.in_ok-text-2.field-0 ++ decimal c.from-variable.result ≡ c.args.line ++ codes "neither RUP nor RAT on " ++ sign_text c.args.pivot ++ decimal (c.args.pivot / 2) = cc in
    let P : List ℕ → Type 0 = λ x. IfOk c.number.result (λ line. line ≡ x) in
    subst P whole c.number.ensures
