-- Two words behind a place, put in each other's place.
use Rattle.std.proofs.Common.{◌≡◌, ℕ, ◌+◌, ◌<◌, ◌++◌, List, length, take, drop, set, get_or, arith}
use Rattle.std.proofs.Common.{swap, length-drop, length-take-le, take-append-drop}
use Rattle.std.proofs.lemmas.{List.set-append_right, List.Edits.swap_is, Grind.common_steps}

module _ (xs : List ℕ) (n a b : ℕ) (in_a : n + a < length xs) (in_b : n + b < length xs) where
  abbrev front : List ℕ
  front = take n xs

  abbrev rest : List ℕ
  rest = drop n xs

  len : length front ≡ n
  len = length-take-le n xs (omega (arith, in_a))

  read : (i : ℕ) → get_or xs (n + i) 0 ≡ get_or rest i 0
  read i = grind (arith, common_steps)

  written : (ys : List ℕ) (i y : ℕ) → set (front ++ ys) (n + i) y ≡ front ++ set ys i y
  written ys i y = grind (arith, set-append_right front ys n (n + i) y len (omega arith))

  pub swapped_behind : front ++ swap rest a b ≡ swap xs (n + a) (n + b)
  swapped_behind =
      let left = length-drop n xs in
      cc (swap_is rest a b 0 (omega (arith, left, in_a)) (omega (arith, left, in_b)), written (set rest a (get_or rest b 0)) b (get_or rest a 0), written rest a (get_or rest b 0), take-append-drop n xs, read b, read a, swap_is xs (n + a) (n + b) 0 in_a in_b)
