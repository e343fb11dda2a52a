-- A text's listing, byte by byte and run by run.
use Rattle.{cnf_base.specs.Code.Text.col_after, std.specs.List.{list_all, onto_first, slice_split}}
use Rattle.cnf_base.specs.{Code.Text.{col_along, line_after, listed}, declared.place.Place.Place}
use Rattle.{cnf_base.specs.Stream.{more_count, suffix}, std.proofs.lemmas.Bool.Decides.nat_tests}
use Rattle.cnf_base.specs.Text.{Listed, Spot, along, is_comment, is_separator, lines_listing}
use Rattle.cnf_base.specs.Text.{lines_of, listing_at, one_on, skips_at, spot, with_front, words_of}
use Rattle.cnf_base.specs.{Words.word_of, declared.input.Ending.{Ending, TheVariants.{End, Failed}}}
use Rattle.std.proofs.Common.{Bool, List, [], ap, append-nil, arith, cond, false, length, not, refl}
use Rattle.std.proofs.Common.{slice_index, suc, take, true, zero, ℕ, ◌++◌, ◌+◌, ◌<◌, ◌==◌, ◌∷◌, ◌≡◌}
use Rattle.cnf_base.specs.declared.token.Token.TheVariants as token

pub append_nil : (xs : List ℕ) → xs ++ [] ≡ xs
append_nil xs = append-nil xs

-- each byte passes the test
pub data Each (p : ℕ → Bool) : List ℕ → Type 0 where
  none : Each p []
  more : (b : ℕ) (bs : List ℕ) → p b ≡ false → Each p bs → Each p (b ∷ bs)

pub Each-append : (p : ℕ → Bool) (bs : List ℕ) (b : ℕ) → Each p bs → p b ≡ false
    → Each p (bs ++ b ∷ [])
Each-append p [] b e h = more b [] h none
Each-append p (x ∷ xs) b (more _ _ k e) h = more x (xs ++ b ∷ []) k (Each-append p xs b e h)

pub Each-all : (p : ℕ → Bool) (xs : List ℕ) → list_all (λ x. not (p x)) xs ≡ true → Each p xs
Each-all p [] h = none
Each-all p (x ∷ xs) h = let later = Each-all p xs in grind (arith, more)

-- a list that is cut has a first part
pub first_part : (p : ℕ → Bool) (xs : List ℕ) → (first : List ℕ) × (rest : List (List ℕ))
    × (slice_split p xs ≡ first ∷ rest)
first_part p [] = ([], [], refl)
first_part p (x ∷ xs) =
    let f = first_part p xs in
    elim (p x) as (λ v. (first : List ℕ) × (rest : List (List ℕ))
    × (cond v ([] ∷ slice_split p xs) (onto_first x (slice_split p xs)) ≡ first ∷ rest)) [
      | true ↦ ([], slice_split p xs, refl)
      | false ↦ (x ∷ f.0, f.1, ap (onto_first x) f.2)
    ]

-- bytes that don't cut come to the first part
pub split-append : (p : ℕ → Bool) (xs ys first : List ℕ) (rest : List (List ℕ)) → Each p xs
    → slice_split p ys ≡ first ∷ rest → slice_split p (xs ++ ys) ≡ (xs ++ first) ∷ rest
split-append p [] ys first rest e h = h
split-append p (x ∷ xs) ys first rest (more _ _ k e) h = cc (split-append p xs ys first rest e h)

pub no_feed : (b : ℕ) → is_separator b ≡ false → (b == 10) ≡ false
no_feed b h = grind (arith, nat_tests)

pub separator_skips : (p : Place) (b : ℕ) (bs : List ℕ) → is_separator b ≡ true
    → skips_at p (b ∷ bs) ≡ false
separator_skips p b bs h = grind arith

-- past a line's first byte no comment begins
pub inner_skips : (p : Place) (bs : List ℕ) → 0 < p.col → skips_at (col_after p) bs ≡ false
inner_skips p bs h = grind arith

-- a byte of a line comes to the line's front
lines_of-cons : (b : ℕ) (bs first : List ℕ) (rest : List (List ℕ)) → (b == 10) ≡ false
    → lines_of bs ≡ first ∷ rest → lines_of (b ∷ bs) ≡ (b ∷ first) ∷ rest
lines_of-cons b bs first rest h e = cc

-- the first line begins as the text does
pub is_comment-lines_of : (bs : List ℕ) (first : List ℕ) (rest : List (List ℕ))
    → lines_of bs ≡ first ∷ rest → is_comment bs ≡ is_comment first
is_comment-lines_of bs first rest e = grind arith

-- a separator that is no line feed
pub listing_at-separator : (p : Place) (n b : ℕ) (bs : List ℕ) (ending : Ending) → 0 < p.col
    → is_separator b ≡ true → (b == 10) ≡ false
    → listing_at p (suffix n (b ∷ bs) ending) ≡ listing_at (col_after p) (suffix (suc n) bs ending)
listing_at-separator p n b bs ending from_one h line =
    grind (arith, separator_skips p b bs h, inner_skips p bs from_one)

-- a line feed
pub listing_at-feed : (p : Place) (n : ℕ) (bs : List ℕ) (ending : Ending)
    → listing_at p (suffix n (10 ∷ bs) ending)
    ≡ with_front (listed (token.LineEnd p) (suc n) ∷ [])
    (listing_at (line_after p) (suffix (suc n) bs ending))
listing_at-feed p n bs ending = grind arith

-- the column goes on by the bytes
pub col_along-length : (p : Place) (run : List ℕ) → 0 < length run
    → col_along p run ≡ record { line = p.line; col = more_count p.col (length run) }
col_along-length p [] some = absurd (omega arith)
col_along-length p (b ∷ []) some = refl
col_along-length p (b ∷ c ∷ cs) some =
    grind (arith, col_along-length (col_after p) (c ∷ cs) (omega arith))

pub col_along-append : (p : Place) (xs ys : List ℕ)
    → col_along p (xs ++ ys) ≡ col_along (col_along p xs) ys
col_along-append p [] ys = refl
col_along-append p (x ∷ xs) ys = col_along-append (col_after p) xs ys

along-append : (s : Spot) (xs ys : List ℕ) → along s (xs ++ ys) ≡ along (along s xs) ys
along-append s [] ys = refl
along-append s (x ∷ xs) ys = along-append (one_on s) xs ys

-- past bytes of a line stand the others
along-spot : (p : Place) (n : ℕ) (xs : List ℕ)
    → along (spot p n) xs ≡ spot (col_along p xs) (n + length xs)
along-spot p n [] = ap (λ m. spot p m) (omega arith)
along-spot p n (x ∷ xs) = grind (arith, along-spot (col_after p) (suc n) xs)

pub Each-feed : (run : List ℕ) → Each is_separator run → Each (λ b. b == 10) run
Each-feed [] e = none
Each-feed (b ∷ bs) (more _ _ h e) = more b bs (no_feed b h) (Each-feed bs e)

-- the run that a text begins with, which isn't in a comment
pub record IsRun (p : Place) (run : List ℕ) : Type 0 where
  pub each : Each is_separator run
  pub some : 0 < length run
  pub text : skips_at p run ≡ false

pub skips_at-append : (p : Place) (run bytes : List ℕ) → 0 < length run
    → skips_at p (run ++ bytes) ≡ skips_at p run
skips_at-append p [] bytes some = absurd (omega arith)
skips_at-append p (b ∷ bs) bytes some = refl

pub skips_at-front : (p : Place) (bytes : List ℕ) (count : ℕ) → 0 < length bytes → 0 < count
    → skips_at p (take count bytes) ≡ skips_at p (slice_index bytes 0 ∷ [])
skips_at-front p [] count some front = absurd (omega arith)
skips_at-front p (b ∷ bs) zero some front = absurd (omega arith)
skips_at-front p (b ∷ bs) (suc n) some front = refl

-- a run's token
abbrev token_of : Spot → List ℕ → Listed
token_of s run = listed (token.Word s.place (word_of run)) (along s run).offset

words_of-run : (s : Spot) (run : List ℕ) (parts : List (List ℕ)) → 0 < length run
    → words_of s ((run ++ []) ∷ parts) ≡ token_of s run ∷ words_of (one_on (along s run)) parts
words_of-run s [] parts some = absurd (omega arith)
words_of-run s (b ∷ bs) parts some = cc (append_nil bs)

-- a run in front of the rest of a line, which begins with a separator or is at its end
lines_listing-run : (s : Spot) (p : Place) (run line : List ℕ) (parts : List (List ℕ))
    (rest : List (List ℕ)) (ending : Ending) → IsRun p run
    → slice_split is_separator line ≡ [] ∷ parts → ((rest ≡ []) × (parts ≡ []) → ending ≡ End)
    → lines_listing false s ((run ++ line) ∷ rest) ending
    ≡ with_front (token_of s run ∷ []) (lines_listing false (along s run) (line ∷ rest) ending)
lines_listing-run s p run line parts [] End r cut counts =
    let split = split-append is_separator run line [] parts r.each cut in
    grind (arith, along-append, words_of-run)
lines_listing-run s p run line [] [] Failed r cut counts = grind arith
lines_listing-run s p run line (part ∷ parts) [] Failed r cut counts =
    let split = split-append is_separator run line [] (part ∷ parts) r.each cut in
    grind (arith, along-append, words_of-run)
lines_listing-run s p run line parts (next ∷ rest) ending r cut counts =
    let split = split-append is_separator run line [] parts r.each cut in
    grind (arith, along-append, words_of-run)

-- a run that a separator follows
pub listing_at-run : (p : Place) (n : ℕ) (run : List ℕ) (b : ℕ) (bs : List ℕ) (ending : Ending)
    → IsRun p run → is_separator b ≡ true
    → listing_at p (suffix n (run ++ b ∷ bs) ending)
    ≡ with_front (listed (token.Word p (word_of run)) (n + length run) ∷ [])
    (listing_at (col_along p run) (suffix (n + length run) (b ∷ bs) ending))
listing_at-run p n run b bs ending r h =
    grind (arith, by (b == 10) refl, along-spot p n run, separator_skips (col_along p run) b bs h)
  where
    by : (v : Bool) → (b == 10) ≡ v
        → lines_listing false (spot p n) (lines_of (run ++ b ∷ bs)) ending
        ≡ with_front (token_of (spot p n) run ∷ [])
        (lines_listing false (along (spot p n) run) (lines_of (b ∷ bs)) ending)
    by true line =
        let f = first_part (λ x. x == 10) bs in let feed = Each-feed run r.each in
        let some : (lines_of bs ≡ []) × ([] ≡ []) → ending ≡ End = grind arith in
        let cut : lines_of (b ∷ bs) ≡ [] ∷ lines_of bs = cc in
        let split = split-append (λ x. x == 10) run (b ∷ bs) [] (lines_of bs) feed cut in
        cc (lines_listing-run (spot p n) p run [] [] (lines_of bs) ending r refl some)
    by false line =
        let f = first_part (λ x. x == 10) bs in let g = first_part is_separator f.0 in
        let cut = lines_of-cons b bs f.0 f.1 line f.2 in let feed = Each-feed run r.each in
        let split = split-append (λ x. x == 10) run (b ∷ bs) (b ∷ f.0) f.1 feed cut in
        let parts = slice_split is_separator f.0 in
        let words : slice_split is_separator (b ∷ f.0) ≡ [] ∷ parts = cc in
        cc (lines_listing-run (spot p n) p run (b ∷ f.0) parts f.1 ending r words (grind arith))

-- a run at the end
pub listing_at-last_run : (p : Place) (n : ℕ) (run : List ℕ) → IsRun p run
    → listing_at p (suffix n (run ++ []) End)
    ≡ with_front (listed (token.Word p (word_of run)) (n + length run) ∷ [])
    (listing_at (col_along p run) (suffix (n + length run) [] End))
listing_at-last_run p n run r =
    let lines = split-append (λ x. x == 10) run [] [] [] (Each-feed run r.each) refl in
    let first = lines_listing-run (spot p n) p run [] [] [] End r refl (λ _. refl) in
    grind (arith, skips_at-append, along-spot)

-- a run that touches a failed read
pub listing_at-cut_run : (p : Place) (n : ℕ) (run : List ℕ) → IsRun p run
    → listing_at p (suffix n (run ++ []) Failed)
    ≡ listing_at (col_along p run) (suffix (n + length run) [] Failed)
listing_at-cut_run p n run r =
    let lines = split-append (λ x. x == 10) run [] [] [] (Each-feed run r.each) refl in
    let words = split-append is_separator run [] [] [] r.each refl in
    grind (arith, skips_at-append, along-spot, along-append)
