-- Sums over what a finite map has (our own profile).
use Rattle.std.specs.FinMap as maps
use Rattle.std.specs.FinMap.{FinMap}
use Rattle.std.specs.Ordering.{nat_cmp}
use Rattle.std.specs.Prelude.{ℕ, sum_by}

-- the sum of the weights of what the map has, each as often as it stands there
abbrev pub sum_over : {X : Type 0} → (X → ℕ) → FinMap nat_cmp X → ℕ
sum_over weight m = sum_by weight (maps.values m)
