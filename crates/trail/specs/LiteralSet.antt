-- What a set of literals has that is filled again and again.
use Rattle.std.specs.Prelude.{◌==◌, Bool}
use Rattle.cnf_base.specs.Literals.{Literal}
use Rattle.trail.specs.Numbers.{number_at}
use Rattle.trail.specs.declared.literal_set.LiteralSet.{LiteralSet}

-- Whether the last filling has the literal. Each field has to be named here: none is a list, and
-- the table has entries only for literals that were met.
unfoldable pub in_set : LiteralSet → Literal → Bool
in_set s l =
    let record { alloc = _; numbers = numbers; last = last; few = _ } = s in
    number_at numbers l == last
