-- Where lists of bytes begin and end.
use Rattle.std.specs.List.{starts_with}
use Rattle.std.specs.Prelude.{ℕ, Bool, List, nat_eq}

-- the bytes begin with these
abbrev pub begins : List ℕ → List ℕ → Bool
begins bytes front = starts_with nat_eq bytes front
