-- What the tool's own check did is what a check of the tool does.
use Rattle.{cnf_base.specs.Stream.Reader, sat_check.specs.declared.checked.Checked.Checked}
use Rattle.command_line.specs.declared.{args.Args.Args, tool.Tool.Tool}
use Rattle.{filter_io.specs.Runs.{Answers, Checks}, report.specs.declared.status.Status.Status}
use Rattle.std.proofs.Common.{Bool, List, Option, subst, sym, ℕ, ◌≡◌}

pub of_tool : (tool known : Tool) (args : Args)
    (formula formula_new second second_new : Reader) (old new : Option (List ℕ))
    (had_failed has_failed is_flushed : Bool) (checked : Checked) → tool ≡ known
    → Checks known args formula formula_new second second_new old new had_failed has_failed
    is_flushed checked
    → Checks tool args formula formula_new second second_new old new had_failed has_failed
    is_flushed checked
of_tool tool known args formula formula_new second second_new old new had_failed has_failed
    is_flushed checked is does =
    let Does : Tool → Type 0 =
    λ t. Checks t args formula formula_new second second_new old new had_failed has_failed
    is_flushed checked in
    subst Does (sym is) does

pub answers_of_tool : (tool known : Tool) (formula second : Option (List ℕ)) (status : Status)
    (old new : Option (List ℕ)) → tool ≡ known → Answers known formula second status old new
    → Answers tool formula second status old new
answers_of_tool tool known formula second status old new is says =
    let Says : Tool → Type 0 = λ t. Answers t formula second status old new in
    subst Says (sym is) says
