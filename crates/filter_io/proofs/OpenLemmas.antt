-- An input that was opened by its name is what was asked for.
use Rattle.{cnf_base.specs.Stream.Reader, filter_io.specs.Runs.Opens, std.proofs.Common.Bool}
use Rattle.std.proofs.Common.{List, Option, Some, subst, sym, ℕ, ◌≡◌}

pub of_name : (holds : List ℕ → Option (List ℕ)) (may_refuse : List ℕ → Bool)
    (standard asked : Option (List ℕ)) (name : List ℕ) (r : Reader) → asked ≡ Some name
    → Opens holds may_refuse standard (Some name) r → Opens holds may_refuse standard asked r
of_name holds may_refuse standard asked name r is opens =
    let P : Option (List ℕ) → Type 0 = λ a. Opens holds may_refuse standard a r in
    subst P (sym is) opens
