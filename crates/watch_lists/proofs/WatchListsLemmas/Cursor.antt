-- A list of which an entry is kept or taken out.
use Rattle.std.proofs.Common.{rules, ◌≡◌, ℕ, ◌+◌, ◌-◌, ◌<◌, ◌≤◌, ◌++◌, ◌∷◌, [], List, length, take}
use Rattle.std.proofs.Common.{drop, set, sym, ap, ◌∙◌, arith}
use Rattle.std.proofs.lemmas.List.{append_assoc, drop-drop, drop-set-lt, drop_more, length-append}
use Rattle.std.proofs.lemmas.List.{length-drop, length-take-le, set-append_right, take_more_set}
use Rattle.std.{proofs.lemmas.List.Edits.remove-append_right, specs.List.remove}

module _ {X : Type 0} (xs : List X) (kept next : ℕ) (ordered : kept ≤ next) where
  -- how many entries there are
  pub entries_length : next ≤ length xs → length (take kept xs ++ drop next xs) + next ≡ kept + length xs
  entries_length inside = grind (arith, length-append, length-take-le, length-drop)

  module _ (inside : next < length xs) where
    front : length (take kept xs) ≡ kept
    front = search rules

    pub entry_kept : (x : X) → take (kept + 1) (set xs kept x) ++ drop (next + 1) (set xs kept x) ≡ set (take kept xs ++ drop next xs) kept x
    entry_kept x =
        let none : kept - kept ≡ 0 = omega arith in
        ap (λ ys. ys ++ drop (next + 1) (set xs kept x)) (grind (arith, take_more_set))
        ∙ ap (λ ys. (take kept xs ++ x ∷ []) ++ ys) (grind (arith, drop-set-lt))
        ∙ append_assoc (take kept xs) (x ∷ []) (drop (next + 1) xs)
        ∙ sym (set-append_right (take kept xs) (drop next xs) kept kept x front (omega arith) ∙ ap (λ i. take kept xs ++ set (drop next xs) i x) none ∙ ap (λ ys. take kept xs ++ set ys 0 x) (drop_more xs next x inside))

    pub entry_taken : take kept xs ++ drop (next + 1) xs ≡ remove (take kept xs ++ drop next xs) kept
    entry_taken =
        let none : kept - kept ≡ 0 = omega arith in
        sym (remove-append_right (take kept xs) (drop next xs) kept kept front (omega arith) ∙ ap (λ i. take kept xs ++ remove (drop next xs) i) none ∙ ap (λ ys. take kept xs ++ ys) (drop-drop 1 next xs))

-- the next entry is inside the list where there is one
pub next_inside : {X : Type 0} (xs : List X) (kept next : ℕ) → kept ≤ next → next ≤ length xs → kept < length (take kept xs ++ drop next xs) → next < length xs
next_inside xs kept next ordered inside low = search (rules, arith, entries_length)

-- what is said of an entry that is kept or taken out
pub ruleset cursor_steps = (next_inside, entry_kept, entry_taken)
