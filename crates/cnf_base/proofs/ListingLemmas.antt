-- Where the tokens of a text end.
use Rattle.{cnf_base.specs.{Stream.Suffix, Text.{one_on, words_of}}, std.specs.List.slice_split}
use Rattle.cnf_base.specs.Text.{Gives, Listed, Listing, Spot, along, is_comment, is_separator}
use Rattle.cnf_base.specs.Text.{last_tokens, line_tokens, lines_listing, listing_at, next_line}
use Rattle.cnf_base.specs.declared.{input.{Ending.Ending, ReadFailed.ReadFailed}, place.Place.Place}
use Rattle.std.proofs.Common.{Bool, List, Result, [], arith, false, true, ℕ, ◌++◌, ◌∷◌, ◌≤◌}
use Rattle.cnf_base.specs.declared.token.Token as tokens

-- each token ends at this offset or later
abbrev pub EndFrom : ℕ → List Listed → Type 0
EndFrom n [] = Unit {0}
EndFrom n (t ∷ ts) = (n ≤ t.1) × EndFrom n ts

append-from : (n : ℕ) (ts us : List Listed) → EndFrom n ts → EndFrom n us → EndFrom n (ts ++ us)
append-from n [] us h k = k
append-from n (t ∷ ts) us h k = (h.0, append-from n ts us h.1 k)

along-later : (s : Spot) (bs : List ℕ) → s.offset ≤ (along s bs).offset
along-later s [] = omega arith
along-later s (b ∷ bs) = omega (arith, along-later (one_on s) bs)

words_of-from : (n : ℕ) (s : Spot) (parts : List (List ℕ)) → n ≤ s.offset
    → EndFrom n (words_of s parts)
words_of-from n s [] h = tt
words_of-from n s ([] ∷ parts) h = words_of-from n (one_on s) parts (omega (arith, h))
words_of-from n s ((b ∷ bs) ∷ parts) h =
    grind (arith, along-later, words_of-from n (one_on (along s (b ∷ bs))) parts)

line_tokens-from : (n : ℕ) (skips : Bool) (s : Spot) (line : List ℕ) → n ≤ s.offset
    → EndFrom n (line_tokens skips s line)
line_tokens-from n true s line h = tt
line_tokens-from n false s line h =
    let past = along-later s line in
    let words = words_of-from n s (slice_split is_separator line) h in
    append-from n (words_of s (slice_split is_separator line)) _ words (omega (arith, past, h), tt)

last_tokens-from : (n : ℕ) (skips : Bool) (s : Spot) (line : List ℕ) (ending : Ending)
    → n ≤ s.offset → EndFrom n (last_tokens skips s line ending)
last_tokens-from n skips s line ending h = grind (arith, words_of-from)

lines_listing-from : (n : ℕ) (skips : Bool) (s : Spot) (lines : List (List ℕ)) (ending : Ending)
    → n ≤ s.offset → EndFrom n (lines_listing skips s lines ending).tokens
lines_listing-from n skips s [] ending h = tt
lines_listing-from n skips s (line ∷ []) ending h = last_tokens-from n skips s line ending h
lines_listing-from n skips s (line ∷ next ∷ lines) ending h =
    let past = along-later s line in
    let later = lines_listing-from n (is_comment next) (next_line (along s line)) (next ∷ lines)
    ending (omega (arith, past, h)) in
    append-from n (line_tokens skips s line) _ (line_tokens-from n skips s line h) later

-- no token ends before the text begins
pub listing_at-from : (p : Place) (i : Suffix) → EndFrom i.offset (listing_at p i).tokens
listing_at-from p i = grind (arith, lines_listing-from)

-- and none that was to come where the first of them was given
pub Gives-from : (result : Result tokens.Token ReadFailed) (before : Listing) (p : Place)
    (rest : Suffix) → Gives result before (listing_at p rest) rest
    → EndFrom rest.offset before.tokens
Gives-from result before p rest gives = grind (arith, listing_at-from)
