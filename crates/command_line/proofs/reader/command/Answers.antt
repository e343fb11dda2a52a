use Rattle.{clap.specs.Words.{app_of, with_rule}, command_line.specs.Code.Commands.command_of}
use Rattle.command_line.specs.Code.Commands.{flag_rule, new_command, with_files}
use Rattle.std.proofs.{Common.{ap, ap₂, arith, codes, sym, ◌∙◌, ◌≡◌}, lemmas.Result.IfOk-weaker}
use Rattle.command_line.proofs.reader.command.Goals as goal

pub returns-in_ok-drat-in-Drat : goal.returns-in_ok-drat-in-Drat
returns-in_ok-drat-in-Drat c =
    let one : app_of c.in_ok-arg-in-Drat.field-0 ≡ with_rule (new_command (codes "drat-forward")) (flag_rule (codes "binary")) =
    c.in_ok-arg-in-Drat.ensures.shape c.flag-binary.ensures.local ∙ ap₂ with_rule c.new_command.ensures c.flag-binary.ensures.rule in
    let two = c.in_ok-arg-in-Drat-2.ensures.shape c.trace.ensures.local ∙ ap₂ with_rule one c.trace.ensures.rule in
    let three = c.in_ok-arg-in-Drat-3.ensures.shape c.flag.ensures.local ∙ ap₂ with_rule two c.flag.ensures.rule in
    let four = c.in_ok-arg-in-Drat-4.ensures.shape c.flag-in-Drat.ensures.local ∙ ap₂ with_rule three c.flag-in-Drat.ensures.rule in
    let five = c.in_ok-drat-in-Drat.ensures.shape c.flag-in-Drat-2.ensures.local ∙ ap₂ with_rule four c.flag-in-Drat-2.ensures.rule in
    IfOk-weaker c.with_files.result _ _
    (λ r h. h ∙ (ap with_files five ∙ sym (ap command_of c.in-Drat.is)))
    c.with_files.ensures

pub returns-in_ok-lrat-in-Lrat : goal.returns-in_ok-lrat-in-Lrat
returns-in_ok-lrat-in-Lrat c = grind (arith, ap₂)
