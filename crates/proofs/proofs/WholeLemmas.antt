-- Numbers that stand whole, and what they do to a step.
use Rattle.std.proofs.Common.{◌≡◌, ◌≢◌, ℕ, suc, ◌+◌, ◌*◌, ◌%◌, ◌<◌, ◌≤◌, true, false, List, [], ◌∷◌}
use Rattle.std.proofs.Common.{◌++◌, length, take, refl, sym, ap, ◌∙◌, arith, rules, append_assoc}
use Rattle.std.proofs.Common.{length-drop, length-take-le, nat_le, slice_index, zero, ◌-◌, ◌^◌, min}
use Rattle.std.proofs.{Common.pow-suc, Common.length-append, lemmas.Grind.common_steps}
use Rattle.std.{proofs.lemmas.Bool.Decides.nat_tests, specs.List.list_all}
use Rattle.std.proofs.lemmas.{List.take-append-le, Bool.and_parts}
use Rattle.cnf_base.specs.Stream.{Stream, next_count, more_count, skipped}
use Rattle.cnf_base.proofs.StreamLemmas.{Along-still, Along-then, Along-skipped, Splits-first}
use Rattle.cnf_base.{specs.declared.input.Ending.Ending, proofs.StreamLemmas.Splits-second}
use Rattle.proofs.specs.Binary.{groups_value, in_step, in_number, binary_steps_among, group_move}
use Rattle.proofs.specs.Binary.{goes, BinarySpot, binary_move_of, binary_number_move}
use Rattle.proofs.specs.Code.{Whole.spelled, Whole.IsWhole, Whole.RunsOn, BinaryMoves.KeepsGroups}
use Rattle.proofs.specs.{declared.drat_binary.whole.Spelled.Spelled, Code.Binary.binary_steps_from}
use Rattle.proofs.specs.{Steps.Step, Steps.with_literal, declared.drat_binary.groups.Groups.Groups}

-- ---- The groups of a number, byte by byte

value-last : (bs : List ℕ) (b : ℕ) → groups_value (bs ++ b ∷ []) ≡ groups_value
    bs + b % 128 * 128 ^ length bs
value-last [] b = omega arith
value-last (x ∷ xs) b = search (rules, arith, pow-suc, step, groups_value, value-last xs b)
  where
    step : (x v n g w w' : ℕ) → n ≡ v + g * w → w' ≡ w * 128
        → x % 128 + 128 * n ≡ x % 128 + 128 * v + g * w'
    step x v n g w w' e p = rw (e, p) (omega arith)

weight-last : (bs : List ℕ) (b : ℕ) → 128 ^ length (bs ++ b ∷ []) ≡ 128 ^ length bs * 128
weight-last bs b = grind (arith, common_steps, nat_tests, length-append, pow-suc)

-- a product with a number that is cut is cut alike
cut-product : (g w m : ℕ) → min (g * min w m) m ≡ min (g * w) m
cut-product zero w m = omega arith
cut-product (suc h) w m = search rules

cut-sum : (v p m : ℕ) → min (min v m + min p m) m ≡ min (v + p) m
cut-sum v p m = omega arith

pub kept_value : (g : Groups) (bytes : List ℕ) (b : ℕ) → KeepsGroups g bytes
    → min (g.value + min (b % 128 * g.weight) (2 ^ 64 - 1)) (2 ^ 64 - 1)
    ≡ min (groups_value (bytes ++ b ∷ [])) (2 ^ 64 - 1)
kept_value g bytes b k = search (rules, groups_value, cut-product, cut-sum, value-last)

pub kept_weight : (g : Groups) (bytes : List ℕ) (b : ℕ) → KeepsGroups g bytes
    → min (g.weight * 128) (2 ^ 64 - 1) ≡ min (128 ^ length (bytes ++ b ∷ [])) (2 ^ 64 - 1)
kept_weight g bytes b k = let weight = k.weight in let last = weight-last bytes b in omega arith

-- a number that is cut past the limit is judged alike
pub number_kept : (s : Step) (first last n : ℕ)
    → binary_number_move s first last (min n (2 ^ 64 - 1)) ≡ binary_number_move s first last n
number_kept s first last n = grind (arith, nat_tests)

-- ---- A number at the front

record Ends (bs : List ℕ) (s : Spelled) : Type 0 where
  init : List ℕ
  last : ℕ
  are : take s.count bs ≡ init ++ last ∷ []
  count_is : s.count ≡ length init + 1
  high : list_all (nat_le 128) init ≡ true
  low : nat_le 128 last ≡ false
  says : s.value ≡ groups_value (init ++ last ∷ [])
  at : slice_index bs (length init) ≡ last

ends : (bs : List ℕ) → (spelled bs).count ≤ length bs → Ends bs (spelled bs)
ends [] within = absurd (omega (arith, within))
ends (b ∷ bs) within =
    let rest = ends bs in let n = ap (λ (s : Spelled). s.count) in
    elim (nat_le 128 b) as (λ t. nat_le 128 b ≡ t → Ends (b ∷ bs) (spelled (b ∷ bs))) [
      | true ↦ λ e.
          let more : Spelled =
          record { count = suc (spelled bs).count; value = b % 128 + 128 * (spelled bs).value } in
          let is : spelled (b ∷ bs) ≡ more = cc in
          let r = rest (omega (arith, n is, within)) in
          let count = r.count_is in let high = r.high in
          rw is (record {
            init = b ∷ r.init;
            last = r.last;
            are = ap (λ xs. b ∷ xs) r.are;
            count_is = omega arith;
            high = grind (arith, common_steps);
            low = r.low;
            says = ap (λ n. b % 128 + 128 * n) r.says;
            at = r.at;
          })
      | false ↦ λ e. grind (arith, spelled)
    ] refl

in_front : (xs ys : List ℕ) (n : ℕ) → n < length xs → slice_index (xs ++ ys) n ≡ slice_index xs n
in_front xs ys n low = grind (arith, common_steps, low)

pub whole_of : (bytes : List ℕ) → 4 ≤ length bytes → (s : Spelled) (l : ℕ)
    → s ≡ spelled (slice_index bytes 0 ∷ slice_index bytes 1 ∷ slice_index bytes 2
    ∷ slice_index bytes 3 ∷ []) → s.count ≤ 4
    → ((n : ℕ) → s.count ≡ n + 1 → slice_index bytes n ≢ 0)
    → l ≡ s.value → 2 ≤ l → l ≤ 536870911 → IsWhole bytes s.count l
whole_of (a ∷ b ∷ c ∷ d ∷ rest) long s l is few some same least most =
    let four = a ∷ b ∷ c ∷ d ∷ [] in let n = ap (λ (x : Spelled). x.count) is in
    let r : Ends four s = rw is (ends four (omega (arith, n, few))) in
    let count = r.count_is in let low = r.low in
    let at = in_front four rest (length r.init) (omega arith) ∙ r.at in record {
      init = r.init;
      last = r.last;
      are = take-append-le s.count four rest few ∙ r.are;
      count_is = r.count_is;
      within = omega (arith, few, long);
      high = r.high;
      low = grind (arith, nat_tests);
      not_empty = λ zero_last. some (length r.init) r.count_is (at ∙ zero_last);
      says = same ∙ r.says;
      least = least;
      most = most;
    }
whole_of bytes h s l h2 h3 h4 h5 h6 h7 = search (rules, arith)

-- ---- What it does to a step

-- so many more, and then some more
more_more : (at n k : ℕ) → n ≡ k + 1 → more_count (next_count at) k ≡ more_count at n
more_more at n k is = omega (arith, is)

goes_on : (s : Step) (first b : ℕ) (before : List ℕ) → nat_le 128 b ≡ true
    → group_move s first before b ≡ goes (in_number first (before ++ b ∷ [])) s
goes_on s first b before high = cc

module _ (s : Step) (first last value : ℕ) (rest : List ℕ) (ending : Ending)
    (low : nat_le 128 last ≡ false) (some : last ≢ 0) (least : 2 ≤ value)
    (most : value ≤ 536870911) where
  number_steps : (init before : List ℕ) (at offset : ℕ) → list_all (nat_le 128) init ≡ true
      → value ≡ groups_value (before ++ (init ++ last ∷ []))
      → binary_steps_among (in_number first before) s at offset ((init ++ last ∷ []) ++ rest) ending
      ≡ binary_steps_among in_step (with_literal s value) (more_count at (length init + 1))
      (offset + (length init + 1)) rest ending
  number_steps [] before at offset high says = search rules
  number_steps (b ∷ init) before at offset high says =
      let parts = and_parts (nat_le 128 b) (list_all (nat_le 128) init) high in
      let move = goes_on s first b before parts.0 in
      let number = more_more at (length (b ∷ init) + 1) (length init + 1) (omega arith) in
      let past : suc offset + (length init + 1) ≡ offset + (length (b ∷ init) + 1) = omega arith in
      let later = number_steps init (before ++ b ∷ []) (next_count at) (suc offset) parts.1
      (says ∙ ap groups_value (sym (append_assoc before (b ∷ []) (init ++ last ∷ [])))) in
      rw (move, later, number, past)

-- at a step's literals a number begins with any byte but 0
begins : (s : Step) (at b : ℕ) → b ≢ 0 → binary_move_of in_step s at b ≡ group_move s at [] b
begins s at b some = search rules

pub whole_steps : (s : Step) (bytes : List ℕ) (count value at offset : ℕ) (rest : List ℕ)
    (ending : Ending) → IsWhole bytes count value
    → binary_steps_among in_step s at offset (take count bytes ++ rest) ending
    ≡ binary_steps_among in_step (with_literal s value) (more_count at count) (offset + count) rest
    ending
whole_steps s bytes count value at offset rest ending w =
    let low : nat_le 128 w.last ≡ false = grind (arith, nat_tests) in
    let steps = number_steps s at w.last value rest ending low w.not_empty w.least w.most w.init []
    at offset w.high w.says in
    rw (w.are, w.count_is) (by w.init w.high ∙ steps)
  where
    by : (init : List ℕ) → list_all (nat_le 128) init ≡ true
        → binary_steps_among in_step s at offset ((init ++ w.last ∷ []) ++ rest) ending
        ≡ binary_steps_among (in_number at []) s at offset ((init ++ w.last ∷ []) ++ rest) ending
    by [] high = rw (begins s at w.last w.not_empty) refl
    by (b ∷ init) high =
        let parts = and_parts (nat_le 128 b) (list_all (nat_le 128) init) high in
        let other : b ≢ 0 = grind (arith, nat_tests) in rw (begins s at b other) refl

-- ---- Many of them

pub RunsOn-none : (spot : BinarySpot) (s : Stream) (t : Step) → RunsOn spot s s t t
RunsOn-none spot s t = record {
  text = Along-still s (binary_steps_from spot t s.byte_no);
  fewer = omega arith;
  mark = refl;
}

-- one more literal
pub RunsOn-more : (old now : Stream) (first s : Step) (count value : ℕ)
    → RunsOn in_step old now first s → IsWhole now.ahead count value
    → RunsOn in_step old (skipped count now) first (with_literal s value)
RunsOn-more old now first s count value so_far whole =
    let len = length-take-le count now.ahead whole.within in
    let less = length-drop count now.ahead in let was = so_far.fewer in record {
      text = Along-then old now (skipped count now) _ _ _ so_far.text (Along-skipped now count)
          (λ i j k m q r. grind (arith, Splits-first, whole_steps, Splits-second));
      fewer = omega arith;
      mark = so_far.mark;
    }
