-- Whether a call of a writer has failed so far.
use Rattle.std.specs.Prelude.{Bool, true, Result, Ok, Err, ℕ, zero, suc, List, [], ◌∷◌}

-- an error makes the mark true, a success leaves it
abbrev pub marked_by : {A E : Type 0} → Bool → Result A E → Bool
marked_by mark (Ok _) = mark
marked_by mark (Err _) = true

-- the mark after a flush
abbrev pub marked_by_flush : {E : Type 0} → Bool → Result (Unit {0}) E → Bool
marked_by_flush mark result = marked_by mark result

-- the mark after a write: to take nothing of a piece that isn't empty is a failure
abbrev pub marked_by_write : {E : Type 0} → Bool → List ℕ → Result ℕ E → Bool
marked_by_write mark [] result = marked_by mark result
marked_by_write mark (b ∷ bs) (Ok zero) = true
marked_by_write mark (b ∷ bs) (Ok (suc n)) = mark
marked_by_write mark (b ∷ bs) (Err _) = true
