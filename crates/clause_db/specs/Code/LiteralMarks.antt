-- What a table has of a literal.
use Rattle.std.specs.Prelude.{Option, Some, None, Bool, false}

-- whether it is marked
abbrev pub is_marked : Option Bool → Bool
is_marked None = false
is_marked (Some marked) = marked
