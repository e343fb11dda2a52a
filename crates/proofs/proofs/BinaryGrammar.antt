-- The steps of a binary DRAT proof, both ways.
use Rattle.cnf_base.{proofs.PrintLemmas.{both, literal_range}, specs.Stream.next_count}
use Rattle.cnf_base.specs.{Printing.{input_of, is_literal}, declared.input.Ending.TheVariants.End}
use Rattle.proofs.proofs.GrammarText.{all_more, bare, bare-ReadsAs, bare-with_step, drat_step}
use Rattle.proofs.proofs.GrammarText.{drat_step_is, none_some, printed_from, with_literals}
use Rattle.proofs.{proofs.GrammarText.with_read, specs.Steps.{Step, named, with_literal}}
use Rattle.proofs.specs.Binary.{BinaryMove, BinarySpot, at_tag, binary_move_of, binary_number_move}
use Rattle.proofs.specs.Binary.{binary_steps, binary_steps_among, completes, faults, goes, tag_move}
use Rattle.proofs.specs.Binary.{group_move, groups_value, in_number, in_step, on_binary_move}
use Rattle.proofs.specs.{Grammar.BinaryIsGrammar, declared.step_end.StepEnd.TheVariants.Byte}
use Rattle.proofs.specs.Printing.{IsDratStep, ReadProof, ReadStep, binary_step, group_bytes}
use Rattle.proofs.specs.Printing.{number_bytes, printed_steps, proof_of, read_of, seven_bit_groups}
use Rattle.proofs.specs.{Printing.tag_bytes, Reading.PlacedStep}
use Rattle.proofs.specs.declared.step_buf.StepKind.{StepKind, TheVariants.{Add, Delete}}
use Rattle.std.proofs.Common.{All, Bool, List, None, Option, Some, [], ap, append-nil, append_assoc}
use Rattle.std.proofs.Common.{arith, false, flat_map, fold, length, length-append, map, nat_le}
use Rattle.std.proofs.Common.{option_map, refl, rules, suc, sym, true, zero, ℕ, ◌%◌, ◌&&◌, ◌*◌}
use Rattle.std.{proofs.Common.{◌++◌, ◌+◌, ◌-◌, ◌/◌, ◌<◌, ◌∙◌, ◌∷◌, ◌≡◌, ◌≤◌}, specs.List.list_all}
use Rattle.std.proofs.lemmas.{Bool.Decides.nat_tests, Int.Digits.digits_of_step}
use Rattle.std.proofs.lemmas.{Grind.flat_map-append, List.{reverse-append, Elements.All-cons}}

-- ---- A DRAT proof that was printed in binary, as it is read

-- ---- A number

-- a number in groups of 7 bits, lowest first
pub data IsGroups : ℕ → List ℕ → Type 0 where
  last : (n : ℕ) → 0 < n → n < 128 → IsGroups n (n ∷ [])
  more : (n g : ℕ) (gs : List ℕ) → g < 128 → IsGroups n gs → IsGroups (g + 128 * n) (g ∷ gs)

pub group_bytes-cons : (n g : ℕ) (gs : List ℕ) → IsGroups n gs
    → group_bytes (g ∷ gs) ≡ (128 + g) ∷ group_bytes gs
group_bytes-cons n g gs h = search rules

-- the lowest group of a number, and those above it
pub groups_step : (n : ℕ) → 0 < n → seven_bit_groups n ≡ n % 128 ∷ seven_bit_groups (n / 128)
groups_step n some = search (rules, digits_of_step, reverse-append)

-- the groups of a number
pub groups_are : (most n : ℕ) → n ≤ most → 0 < n → IsGroups n (seven_bit_groups n)
groups_are zero n le some = absurd (omega arith)
groups_are (suc most) n le some =
    let groups = groups_step n some in
    elim (nat_le 128 n) as (λ v. nat_le 128 n ≡ v → IsGroups n (seven_bit_groups n)) [
      | true ↦ λ e.
          let large : 128 ≤ n = grind (arith, nat_tests) in
          let later = groups_are most (n / 128) (omega arith) (omega arith) in
          let is : n % 128 + 128 * (n / 128) ≡ n = omega arith in
          rw groups (rw is at (more (n / 128) (n % 128) (seven_bit_groups (n / 128))
          (omega arith) later))
      | false ↦ λ e.
          let small : n < 128 = grind (arith, nat_tests) in let none : n / 128 ≡ 0 = omega arith in
          let is : n % 128 ≡ n = omega arith in rw (groups, none, is) (last n some small)
    ] refl

-- what the bytes of a number spell
groups_valued : (n : ℕ) (gs : List ℕ) → IsGroups n gs → groups_value (group_bytes gs) ≡ n
groups_valued _ _ (last n some small) = omega arith
groups_valued _ _ (more n g gs small groups) =
    search (rules, groups_value, group_bytes-cons, (groups_valued n gs groups))

-- bytes are read so from this offset on, whatever the number of the first one
abbrev IsRead : BinarySpot → Step → ℕ → List ℕ → ReadProof → Type 0
IsRead spot s offset bytes result =
    (at : ℕ) → read_of (binary_steps_among spot s at offset bytes End) ≡ result

-- groups after those of a number that were read, and what follows the number
groups_read : (n : ℕ) (gs : List ℕ) → IsGroups n gs
    → (whole : ℕ) (before rest : List ℕ) (first offset end : ℕ) (s : Step) (result : ReadProof)
    → offset + length (group_bytes gs) ≡ end → groups_value (before ++ group_bytes gs) ≡ whole
    → 2 ≤ whole → whole ≤ 536870911 → IsRead in_step (with_literal s whole) end rest result
    → IsRead (in_number first before) s offset (group_bytes gs ++ rest) result
groups_read _ _ (last n some small) whole before rest first offset end s result ends value low high
    later at =
    let past : suc offset ≡ end = omega (arith, ends) in
    let move : group_move s first before n ≡ goes in_step (with_literal s whole) =
    grind (arith, nat_tests, value) in rw (move, past) (later (next_count at))
groups_read _ _ (more n g gs small groups) whole before rest first offset end s result ends value low
    high later at =
    let marks : nat_le 128 (128 + g) ≡ true = grind (arith, nat_tests) in
    let goes_on : group_move s first before (128 + g)
    ≡ goes (in_number first (before ++ (128 + g) ∷ [])) s = rw marks refl in
    let bytes = group_bytes-cons n g gs groups in let all = ap length bytes in
    let same = append_assoc before ((128 + g) ∷ []) (group_bytes gs) in
    let value' : groups_value ((before ++ (128 + g) ∷ []) ++ group_bytes gs) ≡ whole =
    rw (same, ← bytes) value in
    rw (bytes, goes_on) (groups_read n gs groups whole (before ++ (128 + g) ∷ []) rest first
    (suc offset) end s result (omega (arith, all, ends)) value' low high later (next_count at))

-- a number's first byte is no step's end
groups_begin : (n : ℕ) (gs : List ℕ) → IsGroups n gs → (rest : List ℕ) (at offset : ℕ) (s : Step)
    → binary_steps_among in_step s at offset (group_bytes gs ++ rest) End
    ≡ binary_steps_among (in_number at []) s at offset (group_bytes gs ++ rest) End
groups_begin n gs h rest at offset s = grind (arith, group_bytes-cons, completes, group_move)

-- a literal, and what follows it
literal_read : (l : ℕ) (rest : List ℕ) (offset : ℕ) (s : Step) (result : ReadProof)
    → is_literal 268435455 l ≡ true
    → IsRead in_step (with_literal s l) (offset + length (number_bytes l)) rest result
    → IsRead in_step s offset (number_bytes l ++ rest) result
literal_read l rest offset s result is later at =
    let r = literal_range 268435455 l is in
    let groups = groups_are l l (omega arith) (omega arith) in
    ap read_of (groups_begin l (seven_bit_groups l) groups rest at offset s)
    ∙ groups_read l (seven_bit_groups l) groups l [] rest at offset _ s result refl
    (groups_valued l (seven_bit_groups l) groups) (omega arith) (omega arith) later at

-- ---- Steps

-- literals, the step's end, and what follows it
literals_read : (ls : List ℕ) (rest : List ℕ) (offset end : ℕ) (s : Step) (result : ReadProof)
    → offset + length (flat_map number_bytes ls ++ 0 ∷ []) ≡ end
    → list_all (is_literal 268435455) ls ≡ true → IsRead at_tag (named 0) end rest result
    → IsRead in_step s offset (flat_map number_bytes ls ++ 0 ∷ rest)
    (with_read (fold with_literal s ls) end result)
literals_read [] rest offset end s result ends are later at =
    let past : suc offset ≡ end = omega (arith, ends) in
    rw past (ap (with_read s end) (later (next_count at)))
literals_read (l ∷ ls) rest offset end s result ends are later at =
    let r = both (is_literal 268435455 l) (list_all (is_literal 268435455) ls) are in
    let all = simp (length-append, append_assoc) at ends in
    rw append_assoc (literal_read l (flat_map number_bytes ls ++ 0 ∷ rest) offset s _ r.0
    (literals_read ls rest (offset + length (number_bytes l)) end (with_literal s l) result
    (omega (arith, all, length-append {A = ℕ})) r.1 later) at)

-- a step, and what follows it
step_read : (kind : StepKind) (ls : List ℕ) (rest : List ℕ) (offset end : ℕ) (result : ReadProof)
    → offset + length (tag_bytes kind ++ flat_map number_bytes ls ++ 0 ∷ []) ≡ end
    → list_all (is_literal 268435455) ls ≡ true → IsRead at_tag (named 0) end rest result
    → IsRead at_tag (named 0) offset
    ((tag_bytes kind ++ flat_map number_bytes ls ++ 0 ∷ []) ++ rest)
    (with_read (drat_step kind ls) end result)
step_read Add ls rest offset end result ends are later at =
    let same = append_assoc (flat_map number_bytes ls) (0 ∷ []) rest in
    let read = literals_read ls rest (suc offset) end (drat_step Add []) result
    (omega (arith, ends)) are later (next_count at) in cc (with_literals (drat_step Add []) ls)
step_read Delete ls rest offset end result ends are later at =
    let same = append_assoc (flat_map number_bytes ls) (0 ∷ []) rest in
    let read = literals_read ls rest (suc offset) end (drat_step Delete []) result
    (omega (arith, ends)) are later (next_count at) in cc (with_literals (drat_step Delete []) ls)

-- the steps from a byte on
steps_read : (steps : List Step) (offset : ℕ) → All IsDratStep steps
    → IsRead at_tag (named 0) offset
    (flat_map binary_step steps) (printed_from [] binary_step offset steps)
steps_read [] offset are at = refl
steps_read (s ∷ ss) offset are at =
    let f : IsDratStep s = are 0 s (omega arith) in let end : ℕ = offset + length (binary_step s) in
    let later = steps_read ss end (λ k d l. are (suc k) d (omega arith)) in
    let read = step_read s.kind s.lits (flat_map binary_step ss) offset end _ refl
    f.literals later at
    in let same : end - 0 ≡ end = omega arith in cc (drat_step_is s f)

-- a printed proof is read back
pub binary_read : (steps : List Step) → All IsDratStep steps
    → read_of (binary_steps (input_of (flat_map binary_step steps))) ≡ proof_of [] binary_step steps
binary_read steps are = steps_read steps 0 are 1

-- ---- A number

-- a byte of a number that isn't its last
abbrev is_marked : ℕ → Bool
is_marked b = nat_le 128 b && nat_le b 255

value_some : (bytes : List ℕ) (b : ℕ) → 0 < b → b < 128 → 0 < groups_value (bytes ++ b ∷ [])
value_some [] b some small = omega arith
value_some (c ∷ bytes) b some small = let later = value_some bytes b some small in omega arith

-- bytes whose last group isn't empty are those of their number
number_spelled : (bytes : List ℕ) (b : ℕ) → list_all is_marked bytes ≡ true → 0 < b → b < 128
    → number_bytes (groups_value (bytes ++ b ∷ [])) ≡ bytes ++ b ∷ []
number_spelled [] b marked some small =
    search (rules, groups_value, number_bytes, group_bytes, groups_step, seven_bit_groups)
number_spelled (c ∷ bytes) b marked some small =
    let r = both (is_marked c) (list_all is_marked bytes) marked in let byte = marked_range c r.0 in
    step (groups_value (bytes ++ b ∷ [])) (value_some bytes b some small) byte.0 byte.1
    (number_spelled bytes b r.1 some small)
  where
    marked_range : (c : ℕ) → is_marked c ≡ true → (128 ≤ c) × (c ≤ 255)
    marked_range c h = grind (arith, nat_tests)

    step : (m : ℕ) → 0 < m → 128 ≤ c → c ≤ 255 → number_bytes m ≡ bytes ++ b ∷ []
        → number_bytes (c % 128 + 128 * m) ≡ c ∷ bytes ++ b ∷ []
    step m some low high later = grind (arith, groups_step, group_bytes-cons, groups_are)

-- ---- The bytes of a step so far

record HasLiterals (s : Step) : Type 0 where
  id : s.id ≡ 0
  hints : s.hints ≡ []
  literals : list_all (is_literal 268435455) s.lits ≡ true

abbrev Fits : BinarySpot → Step → Type 0
Fits at_tag s = s ≡ named 0
Fits in_step s = HasLiterals s
Fits (in_number first bytes) s = HasLiterals s × (list_all is_marked bytes ≡ true)

abbrev step_bytes : Step → List ℕ
step_bytes s = tag_bytes s.kind ++ flat_map number_bytes s.lits

abbrev so_far : BinarySpot → Step → List ℕ
so_far at_tag s = []
so_far in_step s = step_bytes s
so_far (in_number first bytes) s = step_bytes s ++ bytes

-- a byte is the next one of those that are spelled
abbrev Spells : List ℕ → ℕ → BinaryMove → Type 0
Spells before b (goes spot t) = Fits spot t × (so_far spot t ≡ before ++ b ∷ [])
Spells before b (completes t) = IsDratStep t × (binary_step t ≡ before ++ b ∷ [])
Spells before b (faults f at) = Unit {0}

-- a step's tag
tag_spelled : (s : Step) (at b : ℕ) → s ≡ named 0 → Spells [] b (tag_move s at b)
tag_spelled s at b start = search rules

-- a whole number
last_spelled : (s : Step) (first : ℕ) (bytes : List ℕ) (b : ℕ) → HasLiterals s
    → list_all is_marked bytes ≡ true → b < 128 → Spells (step_bytes s ++ bytes) b
    (binary_number_move s first b (groups_value (bytes ++ b ∷ [])))
last_spelled s first bytes b has marked small =
    grind (arith, all_more, flat_map-append, append-nil, number_spelled, append_assoc)

-- one more byte of a number
group_spelled : (s : Step) (first : ℕ) (bytes : List ℕ) (b : ℕ) → HasLiterals s
    → list_all is_marked bytes ≡ true → b < 256
    → Spells (step_bytes s ++ bytes) b (group_move s first bytes b)
group_spelled s first bytes b has marked byte = grind (arith, all_more, append_assoc, last_spelled)

byte_moves : (spot : BinarySpot) (s : Step) (at b : ℕ) → b < 256 → Fits spot s
    → Spells (so_far spot s) b (binary_move_of spot s at b)
byte_moves at_tag s at b byte fits = tag_spelled s at b fits
byte_moves in_step s at b byte fits =
    let group = rw append-nil at (group_spelled s at [] b fits refl byte) in grind arith
byte_moves (in_number first bytes) s at b byte fits = search (rules, group_spelled)

-- ---- Steps

abbrev AreSpelled : BinarySpot → Step → List ℕ → List Step → Type 0
AreSpelled spot s bs steps =
    All IsDratStep steps × (so_far spot s ++ bs ≡ flat_map binary_step steps)

bytes_spelled : (bs : List ℕ) (spot : BinarySpot) (s : Step) (at offset : ℕ) (steps : List Step)
    → All (λ b. b < 256) bs → Fits spot s
    → bare (binary_steps_among spot s at offset bs End) ≡ Some steps → AreSpelled spot s bs steps
bytes_spelled (b ∷ bs) spot s at offset steps are fits e =
    by (binary_move_of spot s at b) (byte_moves spot s at b (are 0 b (omega arith)) fits)
    (λ spot s at offset steps. bytes_spelled bs spot s at offset steps
    (λ k d l. are (suc k) d (omega arith))) e
  where
    IsSo : Type 0
    IsSo = (spot : BinarySpot) (s : Step) (at offset : ℕ) (steps : List Step) → Fits spot s
        → bare (binary_steps_among spot s at offset bs End) ≡ Some steps
        → AreSpelled spot s bs steps

    onto : (before : List ℕ) → before ≡ so_far spot s ++ b ∷ []
        → so_far spot s ++ b ∷ bs ≡ before ++ bs
    onto before e = grind (arith, append_assoc)

    completed : (t : Step) → IsDratStep t → binary_step t ≡ so_far spot s ++ b ∷ [] → IsSo
        → (later : Option (List Step))
        → bare (binary_steps_among at_tag (named 0) (next_count at) (suc offset) bs End) ≡ later
        → option_map (λ ss. t ∷ ss) later ≡ Some steps → AreSpelled spot s (b ∷ bs) steps
    completed t step bytes later None is_none e = absurd (none_some steps e)
    completed t step bytes later (Some ss) is_some e =
        let same : t ∷ ss ≡ steps = cc in
        let r = later at_tag (named 0) (next_count at) (suc offset) ss refl is_some in
        grind (arith, All-cons, step, onto, binary_step)

    by : (m : BinaryMove) → Spells (so_far spot s) b m → IsSo
        → bare (on_binary_move at (suc offset) m
        (λ spot s. binary_steps_among spot s (next_count at) (suc offset) bs End)) ≡ Some steps
        → AreSpelled spot s (b ∷ bs) steps
    by (goes next t) m later e =
        let r = later next t (next_count at) (suc offset) steps m.0 e in grind (arith, onto)
    by (completes t) m later e =
        let rest = binary_steps_among at_tag (named 0) (next_count at) (suc offset) bs End in
        completed t m.0 m.1 later (bare rest) refl
        (sym (bare-with_step t (Byte at) (suc offset) rest) ∙ e)
    by (faults f first) m later e = absurd (none_some steps e)
bytes_spelled bs spot s at offset steps h h2 h3 = grind (arith, none_some)

-- steps that are read back are read
read_steps : (offset : ℕ) (steps : List Step)
    → map (λ r. r.step) (printed_steps [] binary_step offset steps) ≡ steps
read_steps offset [] = refl
read_steps offset (s ∷ ss) = ap (λ t. s ∷ t) (read_steps (offset + length (binary_step s)) ss)

placed_steps : (ps : List PlacedStep) → map (λ (r : ReadStep). r.step)
    (map (λ placed. record { step = placed.step; offset = placed.offset }) ps)
    ≡ map (λ placed. placed.step) ps
placed_steps [] = refl
placed_steps (p ∷ ps) = ap (λ t. p.step ∷ t) (placed_steps ps)

pub binary_both_ways : BinaryIsGrammar
binary_both_ways = record {
  read_is_written = λ bytes steps are reads.
      let r = bytes_spelled bytes at_tag (named 0) 1 0 steps are refl
      (bare-ReadsAs (binary_steps (input_of bytes)) steps reads) in
      record { within = r.0; spelled = r.1 };
  written_is_read = λ bytes steps is.
      let same : bytes ≡ flat_map binary_step steps = is.spelled in
      let back = rw (← same) at (binary_read steps is.within) in
      let bare = placed_steps (binary_steps (input_of bytes)).steps in
      let all = ap (λ p. map (λ (r : ReadStep). r.step) p.steps) back in
      record { all = cc (read_steps 0 steps); no_fault = ap (λ p. p.fault) back };
}
