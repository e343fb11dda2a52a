-- The words of a text, without their places: what a grammar speaks of.
use Rattle.std.specs.Prelude.{ℕ, not, Bool, true, false, List, [], ◌∷◌, map, filter}
use Rattle.std.specs.List.{slice_split, flat_map}
use Rattle.cnf_base.specs.Text.{is_separator, is_comment, lines_of}

-- whether a part of a line is a word: it isn't empty
abbrev pub is_word : List ℕ → Bool
is_word [] = false
is_word (b ∷ bs) = true

-- the words of a line: its parts between separators that aren't empty
abbrev pub words_in : List ℕ → List (List ℕ)
words_in line = filter is_word (slice_split is_separator line)

-- the lines of a text that are no comments, each as its words
abbrev pub word_lines : List ℕ → List (List (List ℕ))
word_lines bytes = map words_in (filter (λ line. not (is_comment line)) (lines_of bytes))

-- all words of a text, in order
abbrev pub text_words : List ℕ → List (List ℕ)
text_words bytes = flat_map (λ line. line) (word_lines bytes)
