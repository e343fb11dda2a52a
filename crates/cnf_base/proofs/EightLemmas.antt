-- Eight bytes as one number: what is done to the number at once is done to each byte.
use Rattle.cnf_base.specs.{Code.{Digits.decimal_after, Eight.{packed, unsigned}}, Words.is_digit}
use Rattle.cnf_base.specs.Code.Eight.{AreBelow, AreEight, AreFront, decimal, eight, from_zero}
use Rattle.std.proofs.Common.{Bool, List, [], ap, arith, bit_and, bit_or, bit_xor, cond, eqb-true}
use Rattle.std.proofs.Common.{false, fold, length, map, refl, replicate, rules, slice_index, suc}
use Rattle.std.proofs.Common.{take, true, w64, ℕ, ◌%◌, ◌*◌, ◌++◌, ◌+◌, ◌-◌, ◌/◌, ◌<◌, ◌==◌, ◌^◌}
use Rattle.std.proofs.{Common.{◌∙◌, ◌∷◌, ◌≡◌, ◌≤◌}, lemmas.Bool.{agree_below_at, Decides.nat_tests}}
use Rattle.std.{proofs.lemmas.List.Sums.prefix_len-le-length, specs.Int.{from_bool, from_le_bytes}}
use Rattle.std.proofs.lemmas.Nat.{and_block, and_le_r, and_mask, or_block, or_lt, xor_block, xor_lt}
use Rattle.std.specs.{Int.Count.count_trailing_zeros, List.{list_all, prefix_len}, Simd.Lanes.zip2}

-- an operation that works on each byte alone
bytewise : (op : ℕ → ℕ → ℕ) → op 0 0 ≡ 0 → ((a b r s : ℕ) → r < 256 → s < 256
    → op (a * 256 + r) (b * 256 + s) ≡ op a b * 256 + op r s) → (xs ys : List ℕ)
    → length xs ≡ length ys → AreBelow 256 xs → AreBelow 256 ys
    → op (packed xs) (packed ys) ≡ packed (zip2 op xs ys)
bytewise op none block [] [] same low_x low_y = none
bytewise op none block (x ∷ xs) (y ∷ ys) same low_x low_y =
    grind (arith, bytewise op none block xs ys, block (packed xs) (packed ys) x y)
bytewise op none block xs ys same low_x low_y = absurd (omega (arith, same))

-- the highest bit where the byte is no digit
mark : ℕ → ℕ
mark b = cond (is_digit b) 0 128

marked : ℕ → ℕ
marked b = bit_and (bit_or (bit_and (from_zero b) 127 + 118) (from_zero b)) 128

marked_is : (b : ℕ) → b < 256 → marked b ≡ mark b
unfolding marked mark
marked_is b low =
    eqb-true _ _ (agree_below_at (λ b. marked b == mark b) (λ _. true) 256 b refl low)

digit_is : (b : ℕ) → is_digit b ≡ true → from_zero b ≡ b - 48
digit_is b digit =
    let test = λ (b : ℕ). cond (is_digit b) (from_zero b == b - 48) true in
    let tried = agree_below_at test (λ _. true) 256 b refl in grind (arith, nat_tests)

-- the number with the marks of eight bytes
abbrev pub marks_of : ℕ → ℕ
marks_of word =
    let low = (bit_and word 9187201950435737471 + 8536140394893047414) % 2 ^ 64 in
    bit_and (bit_or low word) 9259542123273814144

zero_low : (b : ℕ) → b < 256 → from_zero b < 256
zero_low b low = xor_lt 8 b 48 low (omega arith)

-- of a byte the lower seven bits, and with the highest one set where they are no digit's
seven : ℕ → ℕ
seven b = bit_and (from_zero b) 127

seven_low : (b : ℕ) → b < 256 → seven b + 118 < 256
unfolding seven
seven_low b low = omega (arith, and_le_r (from_zero b) 127)

marks_at : (a b c d e f g h : ℕ) → let bs = a ∷ b ∷ c ∷ d ∷ e ∷ f ∷ g ∷ h ∷ [] in
    AreBelow 256 bs → marks_of (packed (map from_zero bs)) ≡ packed (map marked bs)
unfolding marked seven
marks_at a b c d e f g h each =
    let bs : List ℕ = a ∷ b ∷ c ∷ d ∷ e ∷ f ∷ g ∷ h ∷ [] in
    let zeroed : AreBelow 256 (map from_zero bs) = grind (arith, zero_low) in
    let sums : AreBelow 256 (map (λ b. seven b + 118) bs) = grind (arith, seven_low) in
    let is_seven = bytewise bit_and refl (and_block 8) (map from_zero bs) (map (λ _. 127) bs) refl
    zeroed (omega arith) in
    let same : (packed (map seven bs) + 8536140394893047414) % 2 ^ 64
    ≡ packed (map (λ b. seven b + 118) bs) = omega (arith, sums) in
    let or_is = bytewise bit_or refl (or_block 8) (map (λ b. seven b + 118) bs) (map from_zero bs)
    refl sums zeroed in
    let low = λ (b : ℕ) (low : b < 256). or_lt 8 _ _ (seven_low b low) (zero_low b low) in
    let ors : AreBelow 256 (map (λ b. bit_or (seven b + 118) (from_zero b)) bs) =
    grind (arith, low) in
    let and_is = bytewise bit_and refl (and_block 8)
    (map (λ b. bit_or (seven b + 118) (from_zero b)) bs) (map (λ _. 128) bs) refl ors
    (omega arith) in
    cc

bits_of : List ℕ → ℕ
bits_of [] = 0
bits_of (b ∷ bs) = suc (suc (suc (suc (suc (suc (suc (suc (bits_of bs))))))))

lowest : (bs : List ℕ) → AreBelow 256 bs
    → count_trailing_zeros (bits_of bs) (packed (map marked bs)) / 8 ≡ prefix_len is_digit bs
unfolding bits_of mark count_trailing_zeros
lowest [] each = refl
lowest (b ∷ bs) each =
    let more = lowest bs each.1 in
    rw (marked_is b each.0) (elim (is_digit b) as (λ v. count_trailing_zeros (bits_of (b ∷ bs))
    (cond v 0 128 + 256 * packed (map marked bs)) / 8 ≡ cond v (1 + prefix_len is_digit bs) 0)
    [ true ↦ grind arith | false ↦ grind arith ])

pub count_is : (bs : List ℕ) → AreEight 256 bs → (word : ℕ) → word ≡ packed (map from_zero bs)
    → count_trailing_zeros 64 (marks_of word) / 8 ≡ prefix_len is_digit bs
unfolding bits_of
count_is (a ∷ b ∷ c ∷ d ∷ e ∷ f ∷ g ∷ h ∷ []) are word is =
    let marks = marks_at a b c d e f g h are.each in cc (lowest _ are.each)
count_is bs are word is = absurd (omega (arith, are.size))

-- the words of value_of
abbrev pub pairs_of : ℕ → ℕ
pairs_of word = bit_and ((word * 2561) % 2 ^ 64 / 2 ^ 8) 71777214294589695

abbrev pub fours_of : ℕ → ℕ
fours_of pairs = bit_and ((pairs * 6553601) % 2 ^ 64 / 2 ^ 16) 281470681808895

abbrev pub joined : ℕ → ℕ
joined fours = (fours * 42949672960001) % 2 ^ 64 / 2 ^ 32

-- of two halves of 32 bits the lower 16 of each
halved : (x y z : ℕ) → x < 65536 → y < 65536 → z < 65536
    → bit_and (x + 65536 * y + 4294967296 * z) 281470681808895 ≡ x + 4294967296 * z
halved x y z low_x low_y low_z =
    let low : ℕ = x + 65536 * y in
    let both = and_block 32 z 65535 low 65535 (omega (arith, low_x, low_y)) (omega arith) in
    let upper = and_mask z 16 in let lower = and_mask low 16 in grind arith

-- eight digits, each with the one after it
pairs_is : (a b c d e f g h : ℕ) → AreBelow 10 (a ∷ b ∷ c ∷ d ∷ e ∷ f ∷ g ∷ h ∷ []) → (word : ℕ)
    → word ≡ packed (a ∷ b ∷ c ∷ d ∷ e ∷ f ∷ g ∷ h ∷ []) → pairs_of word ≡ packed
    ((10 * a + b) ∷ 0 ∷ (10 * c + d) ∷ 0 ∷ (10 * e + f) ∷ 0 ∷ (10 * g + h) ∷ 0 ∷ [])
pairs_is a b c d e f g h low word is =
    let mask : List ℕ = 255 ∷ 0 ∷ 255 ∷ 0 ∷ 255 ∷ 0 ∷ 255 ∷ 0 ∷ [] in
    let paired : List ℕ = (10 * a + b) ∷ (10 * b + c) ∷ (10 * c + d) ∷ (10 * d + e)
    ∷ (10 * e + f) ∷ (10 * f + g) ∷ (10 * g + h) ∷ 0 ∷ [] in
    let each = bytewise bit_and refl (and_block 8) paired mask refl (omega arith) (omega arith) in
    let paired_is : (word * 2561) % 2 ^ 64 / 2 ^ 8 ≡ packed paired = omega (arith, is, low) in
    let masks = λ (n : ℕ). and_mask n 8 in grind (arith, and_le_r, masks)

pub value_is : (ds : List ℕ) → AreEight 10 ds → (word : ℕ) → word ≡ packed ds
    → joined (fours_of (pairs_of word)) ≡ decimal ds
value_is (a ∷ b ∷ c ∷ d ∷ e ∷ f ∷ g ∷ h ∷ []) are word is =
    let first : ℕ = 1000 * a + 100 * b + 10 * c + d in
    let middle : ℕ = 1000 * c + 100 * d + 10 * e + f in
    let last : ℕ = 1000 * e + 100 * f + 10 * g + h in
    let pairs = pairs_is a b c d e f g h are.each word is in
    grind (arith, halved first middle last)
value_is ds are word is = absurd (omega (arith, are.size))

below-digits : (bs : List ℕ) → list_all is_digit bs ≡ true → AreBelow 10 (map from_zero bs)
below-digits [] all = tt
below-digits (b ∷ bs) all = grind (arith, below-digits bs, digit_is)

decimal-digits : (n : ℕ) (bs : List ℕ) → list_all is_digit bs ≡ true
    → fold (λ n d. n * 10 + d) n (map from_zero bs) ≡ decimal_after n bs
decimal-digits n [] all = refl
decimal-digits n (b ∷ bs) all = grind (arith, digit_is, decimal-digits (n * 10 + (b - 48)) bs)

prefix_all : (bs : List ℕ) → list_all is_digit (take (prefix_len is_digit bs) bs) ≡ true
prefix_all [] = refl
prefix_all (b ∷ bs) =
    let more = prefix_all bs in
    elim (is_digit b) as (λ v. is_digit b ≡ v
    → list_all is_digit (take (cond v (1 + prefix_len is_digit bs) 0) (b ∷ bs)) ≡ true)
    [ true ↦ λ digit. grind arith | false ↦ λ other. refl ] refl

-- the first eight bytes
pub eight_is : (bs : List ℕ) → 8 ≤ length bs → eight bs ≡ take 8 bs
eight_is (a ∷ b ∷ c ∷ d ∷ e ∷ f ∷ g ∷ h ∷ bs) long = refl
eight_is bs long = absurd (omega (arith, long))

pack_is : (a b c d e f g h : ℕ)
    → from_le_bytes w64 (a ∷ b ∷ c ∷ d ∷ e ∷ f ∷ g ∷ h ∷ [])
    ≡ packed (a ∷ b ∷ c ∷ d ∷ e ∷ f ∷ g ∷ h ∷ [])
pack_is a b c d e f g h = omega arith

-- the value is what the number's digits write, where the other bytes are shifted out
abbrev IsSaid : ℕ → ℕ → ℕ → Type 0
IsSaid number count value =
    (ds : List ℕ) → AreEight 10 ds → (number * 2 ^ (64 - 8 * count)) % 2 ^ 64 ≡ packed ds
    → value ≡ decimal ds

-- they count as if zeros stood before them, and the other bytes are shifted out
front_at : (count value a b c d e f g h : ℕ) (bs : List ℕ)
    → let bytes = a ∷ b ∷ c ∷ d ∷ e ∷ f ∷ g ∷ h ∷ bs in AreBelow 256 (eight bytes) → 0 < count
    → count ≤ 8 → list_all is_digit (take count (eight bytes)) ≡ true
    → IsSaid (packed (map from_zero (eight bytes))) count value → AreFront bytes count value
front_at (suc (suc (suc (suc (suc (suc (suc (suc (suc n))))))))) value a b c d e f g h bs low some
    most each says = absurd (omega (arith, most))
front_at count value a b c d e f g h bs low some most each says =
    let digits : List ℕ = take count (a ∷ b ∷ c ∷ d ∷ e ∷ f ∷ g ∷ h ∷ []) in
    let filled : List ℕ = replicate (8 - count) 0 ++ map from_zero digits in
    let zeroed : AreBelow 256 (map from_zero (a ∷ b ∷ c ∷ d ∷ e ∷ f ∷ g ∷ h ∷ [])) =
    grind (arith, zero_low) in
    let below = below-digits digits each in
    let are : AreEight 10 filled = grind arith in
    let is = says filled are (omega arith) in
    record { some = some; most = most; each = each; says = is ∙ decimal-digits 0 digits each }

module _ (a b c d e f g h : ℕ) (bs : List ℕ) (word count value : ℕ) (some : 0 < count)
    (low : AreBelow 256 (a ∷ b ∷ c ∷ d ∷ e ∷ f ∷ g ∷ h ∷ []))
    (is : word ≡ packed (map from_zero (a ∷ b ∷ c ∷ d ∷ e ∷ f ∷ g ∷ h ∷ [])))
    (counted : (xs : List ℕ) → AreEight 256 xs
    → (word / 256 * 256) % 2 ^ 64 ≡ packed (map from_zero xs)
    → count ≡ prefix_len is_digit xs) where
  zeroed : AreBelow 256 (map from_zero (a ∷ b ∷ c ∷ d ∷ e ∷ f ∷ g ∷ h ∷ []))
  zeroed = grind (arith, zero_low)

  abbrev after : ℕ → List ℕ
  after x = x ∷ b ∷ c ∷ d ∷ e ∷ f ∷ g ∷ h ∷ []

  -- the first byte is taken for a digit
  first_is : (x : ℕ) → x < 256 → is_digit x ≡ true
      → IsSaid (packed (map from_zero (after x))) count value → AreFront (after x ++ bs) count value
  first_is x low_x digit says =
      let follow = counted (after 48) (grind arith) (omega (arith, is, zeroed)) in
      let counts : count ≡ prefix_len is_digit (after x) = cc in
      let each : list_all is_digit (take count (after x)) ≡ true = cc (prefix_all (after x)) in
      front_at count value x b c d e f g h bs (grind arith) some
      (search (rules, prefix_len-le-length)) each says

  -- and one that is a `-` for a `0`
  front_of : (v : Bool) → v ≡ (a == 45)
      → IsSaid ((word + (2 ^ 64 - 29 * from_bool v)) % 2 ^ 64) count value
      → is_digit (slice_index (unsigned v (after a ++ bs)) 0) ≡ true
      → AreFront (unsigned v (after a ++ bs)) count value
  front_of false sign says digit =
      let same : (word + (2 ^ 64 - 0)) % 2 ^ 64 ≡ packed (map from_zero (after a)) =
      omega (arith, is, zeroed) in
      first_is a low.0 digit (rw same at says)
  front_of true sign says digit =
      let minus : a ≡ 45 = grind (arith, nat_tests) in
      let same : (word + (2 ^ 64 - 29)) % 2 ^ 64 ≡ packed (map from_zero (after 48)) =
      grind (arith, is, zeroed) in
      first_is 48 (omega arith) refl (rw same at says)

-- what stands first of the bytes that were read as one number
pub front : (bytes : List ℕ) → 8 ≤ length bytes → ((i : ℕ) → slice_index bytes i < 256)
    → (is_negative : Bool) → is_negative ≡ (slice_index bytes 0 == 45) → (bits count value : ℕ)
    → bits ≡ from_le_bytes w64 (eight bytes)
    → ((xs : List ℕ) → AreEight 256 xs
    → (bit_xor bits 3472328296227680304 / 256 * 256) % 2 ^ 64 ≡ packed (map from_zero xs)
    → count ≡ prefix_len is_digit xs) → 0 < count
    → ((ds : List ℕ) → AreEight 10 ds
    → ((bit_xor bits 3472328296227680304 + (2 ^ 64 - 29 * from_bool
    is_negative)) % 2 ^ 64 * 2 ^ (64 - 8 * count)) % 2 ^ 64 ≡ packed ds → value ≡ decimal ds)
    → is_digit (slice_index (unsigned is_negative bytes) 0) ≡ true
    → AreFront (unsigned is_negative bytes) count value
front (a ∷ b ∷ c ∷ d ∷ e ∷ f ∷ g ∷ h ∷ bs) long low is_negative sign bits count value is counted
    some says digit =
    let first : List ℕ = a ∷ b ∷ c ∷ d ∷ e ∷ f ∷ g ∷ h ∷ [] in
    let bytes : AreBelow 256 first =
    omega (arith, low 0, low 1, low 2, low 3, low 4, low 5, low 6, low 7) in
    let zeroed = bytewise bit_xor refl (xor_block 8) first (map (λ _. 48) first) refl bytes
    (omega arith) in
    let together : bits ≡ packed first = is ∙ pack_is a b c d e f g h in
    front_of a b c d e f g h bs (bit_xor bits 3472328296227680304) count value some bytes
    (ap (λ n. bit_xor n 3472328296227680304) together ∙ zeroed) counted is_negative sign says digit
front bytes long low is_negative sign bits count value is counted some says digit =
    absurd (omega (arith, long))
