-- By literal the slots that occur.
use Rattle.std.specs.List.{list_any}
use Rattle.std.specs.Prelude.{ℕ, Bool}
use Rattle.cnf_base.specs.Literals.{Literal}
use Rattle.tables.specs.Lists.{list_at}
use Rattle.occurrences.specs.Entries.{is_of}
use Rattle.occurrences.specs.declared.by_literal.Occurrences.{Occurrences}

-- Whether the list of the literal has an entry of the slot that counts. Each field has to be named
-- here: the lists have slots, and none has literals.
unfoldable pub occurs : Occurrences → Literal → ℕ → Bool
occurs o l s =
    let record { births = births; lists = lists; low = _; known = _ } = o in
    list_any (is_of births s) (list_at lists l)
