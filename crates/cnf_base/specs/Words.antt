-- What a token of a text says: a number, one of the fixed words, or something else.
use Rattle.std.specs.Prelude.{ℕ, ◌+◌, ◌-◌, ◌*◌, ◌^◌, ◌==◌, nat_le, ◌&&◌, not, min, Bool, true}
use Rattle.std.specs.Prelude.{false, List, [], ◌∷◌, fold, drop, Option, codes}
use Rattle.std.specs.Prelude.{if◌then◌else◌, unwrap_or, option_map}
use Rattle.std.specs.List.{list_all}
use Rattle.std.specs.Str.{bytes_eq}
use Rattle.std.specs.Bool.{then_some}
use Rattle.std.specs.Option.{option_or}
use Rattle.cnf_base.specs.Literals.{Literal}
use Rattle.cnf_base.specs.declared.word.Number.{Number}
use Rattle.cnf_base.specs.declared.word.Word.{Word}
use Rattle.cnf_base.specs.declared.word.Word.TheVariants as words

-- the bytes from `0` to `9`
abbrev pub is_digit : ℕ → Bool
is_digit b = nat_le 48 b && nat_le b 57

-- digits without a leading zero, of a number other than 0
abbrev pub is_counting : List ℕ → Bool
is_counting [] = false
is_counting (d ∷ ds) = is_digit d && not (d == 48) && list_all is_digit ds

-- the number that digits write, kept up to the greatest of 64 bits
abbrev pub size_of : List ℕ → ℕ
size_of digits = min (fold (λ n d. n * 10 + (d - 48)) 0 digits) (2 ^ 64 - 1)

-- whether a `-` stands first
abbrev pub has_minus : List ℕ → Bool
has_minus [] = false
has_minus (b ∷ bs) = b == 45

-- a number of this sign and size
abbrev pub number : Bool → ℕ → Number
number is_negative size = record { is_negative = is_negative; size = size }

-- A number is `0`, or an optional `-` and digits without a leading zero (DIMACS; the strictness is
-- our own profile).
abbrev pub number_of : List ℕ → Option Number
number_of run =
    option_or (then_some (is_counting run) (number false (size_of run)))
    (option_or
    (then_some (has_minus run && is_counting (drop 1 run)) (number true (size_of (drop 1 run))))
    (then_some (bytes_eq run (codes "0")) (number false 0)))

-- the fixed words of DIMACS and of the SAT Competition's output
abbrev pub fixed_word : List ℕ → Word
fixed_word run =
    if bytes_eq run (codes "p") then words.P
    else (if bytes_eq run (codes "cnf") then words.Cnf
    else (if bytes_eq run (codes "d") then words.D
    else (if bytes_eq run (codes "s") then words.S
    else (if bytes_eq run (codes "v") then words.V
    else (if bytes_eq run (codes "SATISFIABLE") then words.Satisfiable
    else (if bytes_eq run (codes "UNSATISFIABLE") then words.Unsatisfiable
    else (if bytes_eq run (codes "UNKNOWN") then words.Unknown
    else words.Other)))))))

-- what a token says: a number, a fixed word, or another word
abbrev pub word_of : List ℕ → Word
word_of run = unwrap_or (option_map words.Number (number_of run)) (fixed_word run)

-- the literal that a number names; none for 0 and past the greatest variable
abbrev pub number_literal : Number → Option Literal
number_literal n =
    then_some (nat_le 1 n.size && nat_le n.size 268435455)
    (if n.is_negative then 2 * n.size + 1 else 2 * n.size)
