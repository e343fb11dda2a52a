-- Numbers that stand whole among bytes.
use Rattle.cnf_base.specs.{Ahead.{IsEnded, IsWholeNumber, is_inner}, Code.Digits.AreDigits}
use Rattle.cnf_base.specs.Code.Digits.{Spells, begins_number, decimal_after, digits_word}
use Rattle.cnf_base.specs.Code.Digits.{first_digits, negative, positive, with_byte}
use Rattle.cnf_base.specs.{Code.{Eight.unsigned, Whole.GoOn}, Words.{is_counting, is_digit, number}}
use Rattle.cnf_base.specs.{Words.{size_of, word_of}, declared.scanner.digits.Digits.Digits}
use Rattle.cnf_base.specs.declared.{scanner.digits.Digits.TheVariants.Counting, word.Number.Number}
use Rattle.std.proofs.Common.{Bool, List, [], add-one, arith, drop, eqb-true, false, get_or-drop}
use Rattle.std.proofs.Common.{length, length-append, length-drop, min, refl, rules, slice_index}
use Rattle.std.proofs.Common.{slice_range, suc, sym, take, take-add, true, zero, ℕ, ◌&&◌, ◌*◌, ◌++◌}
use Rattle.std.proofs.{Common.{◌+◌, ◌-◌, ◌<◌, ◌==◌, ◌^◌, ◌∷◌, ◌≡◌, ◌≤◌}, Math.Seq.take-length}
use Rattle.std.proofs.lemmas.{Bool.{and_parts, Decides.nat_tests}, List.Folds.list_all-append}
use Rattle.std.{proofs.lemmas.List.Sums.fold-append, specs.{Int.from_bool, List.list_all}}
use Rattle.cnf_base.specs.declared.word.Word.TheVariants as words

-- ---- What a run says, byte by byte

all-last : (ds : List ℕ) (b : ℕ)
    → list_all is_digit (ds ++ b ∷ []) ≡ (list_all is_digit ds && is_digit b)
all-last ds b = search (rules, list_all-append)

counting-last : (d : ℕ) (ds : List ℕ) (b : ℕ)
    → is_counting ((d ∷ ds) ++ b ∷ []) ≡ (is_counting (d ∷ ds) && is_digit b)
counting-last d ds b = grind (arith, all-last)

size-last : (ds : List ℕ) (b : ℕ)
    → size_of (ds ++ b ∷ []) ≡ min (min (size_of ds * 10) (2 ^ 64 - 1) + (b - 48)) (2 ^ 64 - 1)
size-last ds b = grind (arith, fold-append)

pub digits-more : (s : Digits) (ds : List ℕ) (b : ℕ) → AreDigits s ds
    → AreDigits (with_byte s b) (ds ++ b ∷ [])
digits-more s ds b h = grind (arith, counting-last, size-last, length-append)

-- the word of digits after a `-`
pub negative_word : (s : Digits) (ds : List ℕ) → AreDigits s ds
    → word_of (45 ∷ ds) ≡ digits_word true s
negative_word s ds h = grind arith

-- the word of digits
pub positive_word : (s : Digits) (b : ℕ) (bs : List ℕ) → is_digit b ≡ true → AreDigits s (b ∷ bs)
    → word_of (b ∷ bs) ≡ digits_word false s
positive_word s b bs digit h = search rules

pub Spells-first : (b : ℕ) → begins_number b ≡ true → Spells (b == 45) (first_digits b) (b ∷ [])
Spells-first b h = grind (arith, nat_tests, negative, positive, digits-more)

pub Spells-more : (is_negative : Bool) (s : Digits) (run : List ℕ) (b : ℕ)
    → Spells is_negative s run → Spells is_negative (with_byte s b) (run ++ b ∷ [])
Spells-more is_negative s run b h = grind (arith, negative, positive, digits-more)

pub Spells-word : (is_negative : Bool) (s : Digits) (run : List ℕ) → Spells is_negative s run
    → digits_word is_negative s ≡ word_of run
Spells-word is_negative s run (negative _ ds h) = sym (negative_word s ds h)
Spells-word is_negative s run (positive _ b bs digit h) = sym (positive_word s b bs digit h)

pub ruleset spelled = (Spells-first, Spells-more, Spells-word)

-- one byte more in front
take-front : (n b : ℕ) (bs : List ℕ) → take (n + 1) (b ∷ bs) ≡ b ∷ take n bs
take-front n b bs = grind arith

IsEnded-front : (n b : ℕ) (bs : List ℕ) → IsEnded bs n → IsEnded (b ∷ bs) (n + 1)
IsEnded-front n b bs w = grind arith

-- so many bytes are digits
record AreWholeDigits (bytes : List ℕ) (count : ℕ) (digits : Digits) : Type 0 where
  some : 0 < count
  ended : IsEnded bytes count
  each : list_all is_digit (take count bytes) ≡ true
  says : AreDigits digits (take count bytes)

-- all bytes from one on
after : (count : ℕ) (bytes : List ℕ) → slice_range bytes count (length bytes) ≡ drop count bytes
after count bytes = cc (length-drop count bytes, take-length (drop count bytes))

-- digits, and more of them
pub GoOn-more : (bytes : List ℕ) (count size more whole : ℕ)
    → list_all is_digit (take count bytes) ≡ true → size ≡ decimal_after 0 (take count bytes)
    → GoOn size (slice_range bytes count (length bytes)) more whole
    → GoOn 0 bytes (count + more) whole
GoOn-more bytes count size more whole each says m =
    grind (arith, length-drop, get_or-drop, take-add, list_all-append, fold-append, after)

-- digits of which the first is no 0
counting : (bytes : List ℕ) (count size : ℕ) → GoOn 0 bytes count size → 0 < count → size < 2 ^ 64
    → (slice_index bytes 0 == 48) ≡ false → AreWholeDigits bytes count (Counting size)
counting bytes count size m some low other = grind arith

digits-inner : (ds : List ℕ) → list_all is_digit ds ≡ true → list_all is_inner ds ≡ true
digits-inner [] h = refl
digits-inner (d ∷ ds) h = let later = digits-inner ds in grind (arith, and_parts)

-- digits after a `-`
IsWholeNumber-negative : (b : ℕ) (bs : List ℕ) (count : ℕ) (digits : Digits) (number : Number)
    → b ≡ 45 → AreWholeDigits bs count digits → digits_word true digits ≡ words.Number number
    → IsWholeNumber (b ∷ bs) (count + 1) number
IsWholeNumber-negative b bs count digits number minus rest says =
    grind (arith, IsEnded-front, digits-inner, negative_word, take-front)

-- digits alone
IsWholeNumber-positive : (bytes : List ℕ) (count : ℕ) (digits : Digits) (number : Number)
    → AreWholeDigits bytes count digits → digits_word false digits ≡ words.Number number
    → IsWholeNumber bytes count number
IsWholeNumber-positive bytes count digits number d says = grind (arith, digits-inner)

-- digits behind one that is a 0
GoOn-rest : (bs : List ℕ) (n size : ℕ) → is_digit (slice_index bs 0) ≡ true
    → GoOn 0 (48 ∷ bs) (suc n) size → (0 < n) × GoOn 0 bs n size
GoOn-rest bs n size lead m = grind arith

-- more digits stand behind the first ones, whatever the first one is
pub unsigned-behind : (is_negative : Bool) (bytes : List ℕ) (count : ℕ) → 0 < count
    → count ≤ length bytes → slice_range bytes count (length bytes)
    ≡ slice_range (unsigned is_negative bytes) count (length (unsigned is_negative bytes))
unsigned-behind is_negative bytes count some inside = grind arith

-- digits after an optional `-`
pub IsWholeNumber-signed : (bytes : List ℕ) (is_negative : Bool) (minus count size : ℕ)
    → 0 < length bytes → is_negative ≡ (slice_index bytes 0 == 45) → minus ≡ from_bool is_negative
    → is_digit (slice_index bytes minus) ≡ true → GoOn 0 (unsigned is_negative bytes) count size
    → 0 < count → size < 2 ^ 64 → (slice_index bytes minus ≡ 48 → count ≤ 1)
    → IsWholeNumber bytes count (record { is_negative = is_negative; size = size })
IsWholeNumber-signed [] is_negative minus count size front sign is lead m some low alone =
    absurd (omega (arith, front))
IsWholeNumber-signed (b ∷ bs) true minus zero size front sign is lead m some low alone =
    absurd (omega (arith, some))
IsWholeNumber-signed (b ∷ bs) true minus (suc n) size front sign is lead m some low alone =
    let rest = GoOn-rest bs n size (cc) m in
    let other : (slice_index bs 0 == 48) ≡ false = grind (arith, nat_tests) in
    let whole = IsWholeNumber-negative b bs n (Counting size) (number true size)
    (eqb-true b 45 (sym sign)) (counting bs n size rest.1 rest.0 low other) refl in
    rw (← add-one n) whole
IsWholeNumber-signed (b ∷ bs) false minus count size front sign is lead m some low alone =
    elim (b == 48) as (λ v. (b == 48) ≡ v → IsWholeNumber (b ∷ bs) count (number false size)) [
      | true ↦ λ e. let one : count ≡ 1 = grind arith in grind arith
      | false ↦ λ e. IsWholeNumber-positive (b ∷ bs) count (Counting size) (number false size)
          (counting (b ∷ bs) count size m some low e) refl
    ] refl
