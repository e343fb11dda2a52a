-- The rows that uses add, and what is found in them.
use Rattle.clap.specs.Walk.{Row, Rule, Text, at_row, has_row, reading_by, with_values, without}
use Rattle.clap.specs.declared.parser.matches.ValueSource.TheVariants.{CommandLine}
use Rattle.command_line.specs.{Words.is_among, Words.is_flag, Words.names, declared.tool.Tool.Tool}
use Rattle.std.proofs.Common.{List, None, Option, Some, [], append-nil, arith}
use Rattle.std.proofs.Common.{false, refl, rules, true, true≢false, ◌++◌, ◌∷◌, ◌≡◌}
use Rattle.std.proofs.lemmas.List.{Elements.filter-append, Folds.find-append, Folds.list_any-append}
use Rattle.std.specs.{List.find, Prelude.is_some, Str.bytes_eq}

abbrev pub row_for : Text → List Row → Option Row
row_for id rows = find (λ r. bytes_eq r.id id) rows

abbrev pub new_row : Rule → List Text → Row
new_row a values = record { id = a.id; values = values; count = None; source = Some CommandLine; reading = reading_by a }

pub has_row-row_for : (id : Text) (rows : List Row) → has_row id rows ≡ is_some (row_for id rows)
has_row-row_for id [] = refl
has_row-row_for id (r ∷ rs) = grind (arith, (has_row-row_for id rs), bytes_eq, row_for)

pub at_end : (id : Text) (change : Row → List Row) (missing rows : List Row) → has_row id rows ≡ false → at_row id change missing rows ≡ rows ++ missing
at_end id change missing [] e = refl
at_end id change missing (r ∷ rs) e =
    grind (arith, (at_end id change missing rs), bytes_eq, true≢false)

-- the first use of an argument adds its row
pub used_first : (a : Rule) (values : List Text) (rows : List Row) → has_row a.id rows ≡ false
    → with_values a.id (reading_by a) CommandLine values (without a.id rows) ≡ rows ++ new_row a values ∷ []
used_first a values rows e = simp (at_end, append-nil)

-- a row of another id changes nothing
pub row_kept : (id : Text) (rows : List Row) (r : Row) → bytes_eq r.id id ≡ false → row_for id (rows ++ r ∷ []) ≡ row_for id rows
row_kept id rows r e = search (rules, find-append)

pub row_added : (id : Text) (rows : List Row) (r : Row) → bytes_eq r.id id ≡ true → row_for id rows ≡ None → row_for id (rows ++ r ∷ []) ≡ Some r
row_added id rows r e none = search (rules, find-append)

-- ---- the words

pub among_kept : (done : List Text) (word f : Text) → bytes_eq f word ≡ false → is_among (done ++ word ∷ []) f ≡ is_among done f
among_kept done word f e = search (rules, list_any-append)

pub among_added : (done : List Text) (word f : Text) → bytes_eq f word ≡ true → is_among (done ++ word ∷ []) f ≡ true
among_added done word f e = search (rules, list_any-append)

pub names_kept : (tool : Tool) (done : List Text) (word : Text) → is_flag tool word ≡ true → names tool (done ++ word ∷ []) ≡ names tool done
names_kept tool done word e = grind (arith, filter-append, append-nil)

pub names_added : (tool : Tool) (done : List Text) (word : Text) → is_flag tool word ≡ false → names tool (done ++ word ∷ []) ≡ names tool done ++ word ∷ []
names_added tool done word e = grind (arith, filter-append)
