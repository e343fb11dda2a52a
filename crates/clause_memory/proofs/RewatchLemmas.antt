-- Three words of a block that are written, so that its literals change places.
use Rattle.std.proofs.Common.{List, arith, drop, drop-drop, get_or, get_or-set_other, ◌≤◌}
use Rattle.std.proofs.Common.{get_or-set_same, length, length-drop, length-set, length-take-le}
use Rattle.std.proofs.Common.{refl, set, swap, take, take-append-drop, ℕ, ◌++◌, ◌+◌, ◌-◌, ◌<◌, ◌≡◌}
use Rattle.std.proofs.lemmas.{Grind.same_number_lists, List.{set-append_left, set-append_right}}
use Rattle.std.proofs.lemmas.List.Edits.{Swapped, length-swap, swapped_from_swap}

-- the first two of the words from a place on, and one behind them
module _ (xs : List ℕ) (n to first second l : ℕ) (past : 2 ≤ to) (inside : n + to < length xs) where
  abbrev front : List ℕ
  front = take n xs

  abbrev block : List ℕ
  block = take (to + 1) (drop n xs)

  abbrev rest : List ℕ
  rest = drop (n + to + 1) xs

  len : length block ≡ to + 1
  len = grind (arith, length-drop, length-take-le)

  whole : block ++ rest ≡ drop n xs
  whole = grind (arith, drop-drop (to + 1) n xs, take-append-drop (to + 1) (drop n xs))

  written : (ys : List ℕ) (i y : ℕ) → set (front ++ ys) (n + i) y ≡ front ++ set ys i y
  written ys i y = grind (arith, set-append_right front ys n, length-take-le n xs)

  pub three_written : front ++ (set (set (set block 0 first) 1 second) to l ++ rest)
      ≡ set (set (set xs n first) (n + 1) second) (n + to) l
  three_written =
      grind (arith, len, set-append_left, whole, written (drop n xs) 0 first, written (set (drop n xs) 0 first) 1 second, written, take-append-drop n xs)

-- the same by exchanges: the other one of the first two comes first, and then the one behind them
module _ (xs : List ℕ) (n from to l other next : ℕ) (low : from < 2) (past : 2 ≤ to) (inside : n + to < length xs)
    (is_l : get_or xs (n + from) 0 ≡ l) (is_other : get_or xs (n + (1 - from)) 0 ≡ other) (is_next : get_or xs (n + to) 0 ≡ next) where
  abbrev turned : List ℕ
  turned = swap xs (n + 0) (n + (1 - from))

  abbrev moved : List ℕ
  moved = swap turned (n + 1) (n + to)

  abbrev named : List ℕ
  named = set (set (set xs n other) (n + 1) next) (n + to) l

  turn : Swapped (λ i. get_or xs i 0) (λ i. get_or turned i 0) (n + 0) (n + (1 - from))
  turn = swapped_from_swap xs turned (n + 0) (n + (1 - from)) 0 (omega (arith, inside)) (omega (arith, inside, past)) refl

  move : Swapped (λ i. get_or turned i 0) (λ i. get_or moved i 0) (n + 1) (n + to)
  move =
      swapped_from_swap turned moved (n + 1) (n + to) 0 (grind (arith, length-swap)) (grind (arith, length-swap)) refl

  pub named_is : named ≡ moved
  named_is =
      grind (arith, same_number_lists, length-set, length-swap, turn, move, get_or-set_same, get_or-set_other)
