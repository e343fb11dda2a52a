-- What the words of a command line say. `words` are those after the program's name.
use Rattle.std.specs.Prelude.{◌≡◌, ◌≤◌, ◌||◌, ◌&&◌, ◌==◌, ℕ, Bool, true, false, not, List, [], ◌∷◌}
use Rattle.std.specs.Prelude.{Option, None, Some, codes, if◌then◌else◌}
use Rattle.std.specs.Prelude.{String, string_bytes, map, drop, length, slice_get, filter}
use Rattle.std.specs.List.{list_all, list_any}
use Rattle.std.specs.Str.{bytes_eq}
use Rattle.command_line.specs.declared.tool.Tool.{Tool}
use Rattle.command_line.specs.declared.tool.Tool.TheVariants.{Drat, Lrat, Model}

-- the flags that the tool has
abbrev pub flags : Tool → List (List ℕ)
flags Drat =
    codes "--binary" ∷ codes "--trace" ∷ codes "--strict" ∷ codes "--pr" ∷ codes "--keep-units" ∷ []
flags Lrat = codes "--trace" ∷ []
flags Model = []

-- the word is among the words
abbrev pub is_among : List (List ℕ) → List ℕ → Bool
is_among words word = list_any (bytes_eq word) words

-- whether the word is a flag of the tool
abbrev pub is_flag : Tool → List ℕ → Bool
is_flag tool word = is_among (flags tool) word

-- the words that are no flag, in order
abbrev pub names : Tool → List (List ℕ) → List (List ℕ)
names tool words = filter (λ word. not (is_flag tool word)) words

-- what the words ask for
pub record Asked : Type 0 where
  pub binary : Bool
  pub trace : Bool
  pub strict : Bool
  pub pr : Bool
  pub keep_units : Bool
  pub formula : Option (List ℕ)
  pub second : Option (List ℕ)

-- the tool has the flag, and it is among the words
abbrev pub is_set : Tool → List ℕ → List (List ℕ) → Bool
is_set tool flag words = is_flag tool flag && is_among words flag

-- an option is set where its flag is among the words; the first word that is no flag is the
-- formula, and the second is the proof or the output
abbrev pub args : Tool → List (List ℕ) → Asked
args tool words = record {
  binary = is_set tool (codes "--binary") words;
  trace = is_set tool (codes "--trace") words;
  strict = is_set tool (codes "--strict") words;
  pr = is_set tool (codes "--pr") words;
  keep_units = is_set tool (codes "--keep-units") words;
  formula = slice_get (names tool words) 0;
  second = slice_get (names tool words) 1;
}

-- ---- the words that a tool takes

-- whether the word begins with a `-`
abbrev pub begins_with_hyphen : List ℕ → Bool
begins_with_hyphen [] = false
begins_with_hyphen (b ∷ bs) = b == 45

-- how often the word is among the words
abbrev pub times : List ℕ → List (List ℕ) → ℕ
times word words = length (filter (bytes_eq word) words)

-- whether the word has no byte
abbrev pub is_empty_word : List ℕ → Bool
is_empty_word word = length word == 0

-- the second name is there, and empty
abbrev pub is_some_empty : {Z : Type 0} → Option (String Z) → Bool
is_some_empty None = false
is_some_empty (Some name) = is_empty_word (string_bytes name)

-- the word is a flag of the tool, or begins with no hyphen, or is the hyphen alone
abbrev pub is_known : Tool → List ℕ → Bool
is_known tool word =
    is_flag tool word || (not (begins_with_hyphen word) || bytes_eq word (codes "-"))

-- what stands for standard input: `-`, or no name
abbrev pub is_standard : Option (List ℕ) → Bool
is_standard None = true
is_standard (Some name) = bytes_eq name (codes "-")

-- the name by which a system is asked for an input: none for standard input
abbrev pub asked_by : Option (List ℕ) → Option (List ℕ)
asked_by name = if is_standard name then None else name

-- both inputs would be standard input, by the names of the formula and of the second one
abbrev pub is_read_twice : (formula second : Option (List ℕ)) → Bool
is_read_twice formula second = is_standard second && is_standard formula

-- no word is empty; each is known, and no flag is there twice; one or two words are names, and not
-- both inputs are standard input
pub record Accepts (tool : Tool) (words : List (List ℕ)) : Type 0 where
  pub full : list_any is_empty_word words ≡ false
  pub least : 1 ≤ length (names tool words)
  pub most : length (names tool words) ≤ 2
  pub known : list_all (is_known tool) words ≡ true
  pub once : (flag : List ℕ) → is_flag tool flag ≡ true → times flag words ≤ 1
  pub apart : is_read_twice (slice_get (names tool words) 0) (slice_get (names tool words) 1)
      ≡ false

-- the word `--`
abbrev pub end_mark : List ℕ
end_mark = codes "--"

-- the words after the program's name
abbrev pub said_by : {Z : Type 0} → List (String Z) → List (List ℕ)
said_by words = map string_bytes (drop 1 words)
