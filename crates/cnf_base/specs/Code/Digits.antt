-- The digits of a number, byte by byte.
use Rattle.std.specs.Prelude.{ℕ, ◌==◌, ◌||◌, Bool, ◌+◌, ◌-◌, ◌*◌, ◌^◌, min, if◌then◌else◌, true}
use Rattle.std.specs.Prelude.{false, ◌≡◌, ◌<◌, List, [], ◌∷◌, length, ◌≤◌, take}
use Rattle.std.specs.Prelude.{fold, Option, unwrap_or, option_map}
use Rattle.cnf_base.specs.Words.{is_digit, number, is_counting, size_of}
use Rattle.cnf_base.specs.declared.word.Number.{Number}
use Rattle.cnf_base.specs.declared.scanner.digits.Digits.TheVariants.{Nothing, Zero, Counting}
use Rattle.cnf_base.specs.declared.scanner.digits.Digits.TheVariants.{NoNumber}
use Rattle.cnf_base.specs.declared.scanner.digits.Digits.{Digits}
use Rattle.cnf_base.specs.declared.word.Word.TheVariants as words
use Rattle.cnf_base.specs.declared.word.Word.{Word}

-- the number that digits write after the digits of a number
abbrev pub decimal_after : ℕ → List ℕ → ℕ
decimal_after number digits = fold (λ n d. n * 10 + (d - 48)) number digits

-- the number that digits write
abbrev pub decimal_value : List ℕ → ℕ
decimal_value digits = decimal_after 0 digits

-- the number, or this word where there is none
abbrev pub number_or : Option Number → Word → Word
number_or number word = unwrap_or (option_map words.Number number) word

-- whether a number may begin with the byte
abbrev pub begins_number : ℕ → Bool
begins_number b = b == 45 || is_digit b

-- with one more byte
abbrev pub with_byte : Digits → ℕ → Digits
with_byte Nothing b = if is_digit b then (if b == 48 then Zero else Counting (b - 48)) else NoNumber
with_byte Zero b = NoNumber
with_byte (Counting n) b =
    if is_digit b then Counting (min (min (n * 10) (2 ^ 64 - 1) + (b - 48)) (2 ^ 64 - 1))
    else NoNumber
with_byte NoNumber b = NoNumber

-- the digits that a number's first byte is
abbrev pub first_digits : ℕ → Digits
first_digits b = if b == 45 then Nothing else with_byte Nothing b

-- the word that they make after an optional `-`
abbrev pub digits_word : Bool → Digits → Word
digits_word is_negative (Counting n) = words.Number (number is_negative n)
digits_word false Zero = words.Number (number false 0)
digits_word true Zero = words.Other
digits_word is_negative Nothing = words.Other
digits_word is_negative NoNumber = words.Other

-- what is known of the digits
abbrev pub AreDigits : Digits → List ℕ → Type 0
AreDigits Nothing ds = ds ≡ []
AreDigits Zero ds = ds ≡ 48 ∷ []
AreDigits (Counting n) ds = (is_counting ds ≡ true) × (n ≡ size_of ds)
AreDigits NoNumber ds = (is_counting ds ≡ false) × (0 < length ds) × (ds ≡ 48 ∷ [] → ⊥)

-- the first bytes of a run, of which no more than 16 are kept
pub record AreKept (bytes : List ℕ) (len : ℕ) (is_longer : Bool) (run : List ℕ) : Type 0 where
  pub size : length bytes ≡ 16
  pub within : len ≤ 16
  pub whole : is_longer ≡ false → run ≡ take len bytes
  pub longer : is_longer ≡ true → 16 < length run

-- what a number's run has so far
pub data Spells : Bool → Digits → List ℕ → Type 0 where
  negative : (s : Digits) (ds : List ℕ) → AreDigits s ds → Spells true s (45 ∷ ds)
  positive : (s : Digits) (b : ℕ) (bs : List ℕ) → is_digit b ≡ true → AreDigits s (b ∷ bs)
      → Spells false s (b ∷ bs)

-- a run that begins with another byte
pub record IsName (run : List ℕ) : Type 0 where
  pub first : ℕ
  pub others : List ℕ
  pub is : run ≡ first ∷ others
  pub begins : begins_number first ≡ false

-- the first bytes of a run that is no number
pub record IsKept (bytes : List ℕ) (len : ℕ) (is_longer : Bool) (run : List ℕ) : Type 0 where
  pub kept : AreKept bytes len is_longer run
  pub is_name : IsName run
