-- What `clap`'s walk makes of one word, and when it refuses the word.
use Rattle.clap.specs.Faults.{bundle_fault, bundle_step_fault, flags_fault, long_fault}
use Rattle.clap.specs.{Faults.{settle_fault, short_fault, step_fault, turn_fault}, Kinds.Kinds}
use Rattle.clap.specs.{Kinds.or_else, Lexer.{has_byte, long_of, short_of}, Walk.{Held, Outcome}}
use Rattle.clap.specs.Walk.{Row, Rule, Step, Text, Walk, after_flag, after_step, arg_by_index}
use Rattle.clap.specs.Walk.{arg_by_long, arg_by_short, bundle_met, idle, plain, settled_rows}
use Rattle.clap.specs.Walk.{short_or_plain, to_positional, value, walked}
use Rattle.command_line.proofs.CommandLineLemmas.Rules.{flag_full, help_full, rules_of, top_of}
use Rattle.command_line.{proofs.CommandLineLemmas.Rules.version_full, specs.Words.is_flag}
use Rattle.command_line.specs.declared.tool.Tool.{Tool, TheVariants.{Drat, Lrat, Model}}
use Rattle.std.proofs.Common.{Bool, List, None, Option, Some, [], ap, arith, codes, cond, false}
use Rattle.std.proofs.Common.{inl, inr, length, refl, rules, subst, sym, true, true≢false, ℕ, ◌∙◌}
use Rattle.std.proofs.{Common.{◌∷◌, ◌≡◌, ◌⊎◌}, lemmas.Bool.Decides.nat_tests}
use Rattle.std.specs.{List.before_first, Option.option_map_or, Prelude.{if◌then◌else◌, slice_get}}
use Rattle.std.specs.{Prelude.{◌&&◌, ◌==◌, ◌||◌}, Str.{bytes_eq, chars}}

-- an option that waits for its values
abbrev pub Pending : Type 0
Pending = Option (Text × List Text)

-- what is held between two words
abbrev pub holding : List Row → Pending → Held
holding r p = record { rows = r; pending = p; skip = 0 }

-- the walk between two words, at a position
abbrev pub at : List Row → Pending → ℕ → Walk
at r p n = record { held = holding r p; waiting = idle; position = n; is_trailing = false; stopped = None }

-- the tool's walk does not refuse the word, and where it stands after it
abbrev pub Passes : Tool → Walk → Text → Type 0
Passes tool w word = turn_fault (top_of tool) [] w word ≡ []

abbrev pub taken : Tool → Walk → Text → Walk
taken tool = walked (rules_of tool) []

-- what is pending has its values, and the rows with them
abbrev pub Settles : Tool → List Row → Pending → Type 0
Settles tool r p = settle_fault (rules_of tool) false (holding r p) ≡ []

abbrev pub all_rows : Tool → List Row → Pending → List Row
all_rows tool r p = settled_rows (rules_of tool) p r

-- what is made of a name, and why it is refused
abbrev pub named : Tool → List Row → Pending → ℕ → Text → Walk
named tool r p n word =
    to_positional (rules_of tool) (arg_by_index (rules_of tool) n) word (at r p n) (holding r p)

abbrev pub name_fault : Tool → List Row → Pending → ℕ → Kinds
name_fault tool r p n = step_fault (top_of tool) n (holding r p) value

abbrev pub long_word : Text → Text
long_word name = 45 ∷ 45 ∷ name

-- ---- lists of kinds

pub or_nil : (a b : Kinds) → or_else a b ≡ [] → (a ≡ []) × (b ≡ [])
or_nil a b h = search rules

pub nat_eq_same : (x y : ℕ) → (x == y) ≡ true → x ≡ y
nat_eq_same x y e = grind (arith, nat_tests)

-- ---- the name before a `=`

whole : (t : Text) → has_byte 61 t ≡ false → before_first (λ x. x == 61) t ≡ t
whole [] e = refl
whole (x ∷ xs) e = go (x == 61) refl e (whole xs)
  where
    go : (b : Bool) → (x == 61) ≡ b → (b || has_byte 61 xs) ≡ false →
        (has_byte 61 xs ≡ false → before_first (λ x. x == 61) xs ≡ xs) →
        before_first (λ x. x == 61) (x ∷ xs) ≡ x ∷ xs
    go b h h2 h3 = search rules

no_mark : (b : Bool) (v : Text) → (if b then Some v else None) ≡ None → b ≡ false
no_mark b v h = search rules

-- ---- the flags of the three tools

-- what a letter after one hyphen names: nothing, or a flag that asks for a text
abbrev pub IsShort : Option Rule → Type 0
IsShort o = (o ≡ None) ⊎ ((o ≡ Some help_full) ⊎ (o ≡ Some version_full))

pub shorts_of : (tool : Tool) (x : ℕ) → IsShort (arg_by_short (rules_of tool) x)
shorts_of tool x = search rules

-- the name of a flag of the tool
abbrev pub IsName : Tool → Text → Type 0
IsName tool name = is_flag tool (long_word name) ≡ true

module _ (tool : Tool) (name : Text) where
  -- a long name is a flag of the tool, asks for a text, or is unknown
  abbrev IsLong : Option Rule → Type 0
  IsLong o = (o ≡ None) ⊎ (((o ≡ Some help_full) ⊎ (o ≡ Some version_full))
      ⊎ ((f : Text) × (o ≡ Some (flag_full f)) × (f ≡ name) × IsName tool f))

  text_or_none : (help version : Bool) →
      IsLong (cond help (Some help_full) (cond version (Some version_full) None))
  text_or_none help version = search rules

  flag_or : (f : Text) → IsName tool f → (b : Bool) → (bytes_eq f name || false) ≡ b →
      (o : Option Rule) → IsLong o → IsLong (cond b (Some (flag_full f)) o)
  flag_or f h b h2 o h3 = search rules

pub longs_of : (tool : Tool) (name : Text) → IsLong tool name (arg_by_long (rules_of tool) name)
longs_of Drat name = flag_or Drat name (codes "binary") refl _ refl _
    (search (rules, flag_or, text_or_none))
longs_of Lrat name = search rules
longs_of Model name = search rules

-- ---- a word that is taken as a name

module _ (tool : Tool) (r : List Row) (p : Pending) (n : ℕ) where
  abbrev pub Taken : Text → Type 0
  Taken word = (turn_fault (top_of tool) [] (at r p n) word ≡ name_fault tool r p n)
      × (taken tool (at r p n) word ≡ named tool r p n word)

  -- the walk takes the word for a name, or refuses it
  abbrev pub IsMet : Text → Type 0
  IsMet word = Taken word ⊎ (Passes tool (at r p n) word → ⊥)

  -- what is held after the letters of a word
  abbrev lettered : Text → Option Text → Held × Step
  lettered word s = short_or_plain (rules_of tool) idle word s (holding r p)

  -- why letters are refused
  abbrev letters_fault : Text → Kinds
  letters_fault s = bundle_fault (rules_of tool) false s (holding r p)

  -- neither `--`, nor a long flag
  module _ (word : Text) (b : bytes_eq word (codes "--") ≡ false) (l : long_of word ≡ None)
      (s : Option Text) (e : short_of word ≡ s) where
    short_fault_is : turn_fault (top_of tool) [] (at r p n) word
        ≡ or_else (option_map_or letters_fault s [])
        (step_fault (top_of tool) n (lettered word s).0 (lettered word s).1)
    short_fault_is = search rules

    short_walk_is : taken tool (at r p n) word
        ≡ after_step (rules_of tool) word (at r p n) (lettered word s).0 (lettered word s).1
    unfolding walked
    short_walk_is = rw b (rw l (rw e refl))

  plain_word_taken : (word : Text) → bytes_eq word (codes "--") ≡ false → long_of word ≡ None →
      short_of word ≡ None → Taken word
  plain_word_taken word b l s = (short_fault_is word b l None s, short_walk_is word b l None s)

  pub plain_taken : (x : ℕ) (xs : Text) → (x == 45) ≡ false → Taken (x ∷ xs)
  plain_taken x xs e = plain_word_taken (x ∷ xs) (grind arith) (rw e refl) (rw e refl)

  pub hyphen_taken : Taken (45 ∷ [])
  hyphen_taken = plain_word_taken (45 ∷ []) refl refl refl

  -- ---- a word that begins with one hyphen

  module _ (y : ℕ) (ys : Text) (e : (y == 45) ≡ false) where
    fault_is : turn_fault (top_of tool) [] (at r p n) (45 ∷ y ∷ ys)
        ≡ or_else (letters_fault (y ∷ ys))
        (step_fault (top_of tool) n (lettered (45 ∷ y ∷ ys) (Some (y ∷ ys))).0
        (lettered (45 ∷ y ∷ ys) (Some (y ∷ ys))).1)
    fault_is = short_fault_is (45 ∷ y ∷ ys) (ap (λ b. b && bytes_eq ys []) e) (rw e refl)
        (Some (y ∷ ys)) (rw e refl)

    bundle_none : slice_get (chars (y ∷ ys)) 0 ≡ None → letters_fault (y ∷ ys) ≡ []
    unfolding flags_fault
    bundle_none first = cc

    bundle_is : letters_fault (y ∷ ys)
        ≡ bundle_step_fault (rules_of tool) false (slice_get (chars (y ∷ ys)) 0) (y ∷ ys) 0
        (holding r p) (flags_fault (rules_of tool) false (length ys))
    unfolding flags_fault
    bundle_is = refl

    -- what is met of the letters
    abbrev letters_met : Held × Outcome
    letters_met = bundle_met (rules_of tool) (length (y ∷ ys)) (y ∷ ys) 0 plain (holding r p)

    met_none : slice_get (chars (y ∷ ys)) 0 ≡ None → letters_met ≡ (holding r p, plain)
    unfolding bundle_met
    met_none first = cc

    no_char_taken : slice_get (chars (y ∷ ys)) 0 ≡ None → Taken (45 ∷ y ∷ ys)
    no_char_taken first =
        let step : lettered (45 ∷ y ∷ ys) (Some (y ∷ ys)) ≡ (holding r p, value) =
        ap (λ m. after_flag (rules_of tool) idle (45 ∷ y ∷ ys) m.0 m.1) (met_none first) in (
          grind (arith, fault_is, bundle_none),
          short_walk_is (45 ∷ y ∷ ys) (ap (λ b. b && bytes_eq ys []) e) (rw e refl)
              (Some (y ∷ ys)) (rw e refl)
              ∙ ap (λ m. after_step (rules_of tool) (45 ∷ y ∷ ys) (at r p n) m.0 m.1) step,
        )

    -- a character names no flag, or asks for a text
    char_refused : (o : Option Rule) → IsShort o → (rest : Text) (next : Held → Kinds) →
        Settles tool r p → short_fault (rules_of tool) false o rest (holding r p) next ≡ [] → ⊥
    char_refused o h rest next h2 h3 = search rules

    pub short_refused : Settles tool r p → (x : ℕ) → slice_get (chars (y ∷ ys)) 0 ≡ Some x →
        Passes tool (at r p n) (45 ∷ y ∷ ys) → ⊥
    short_refused s x first f =
        let k = rw first at (sym bundle_is ∙ (or_nil _ _ (sym fault_is ∙ f)).0) in
        char_refused _ (shorts_of tool x) _ _ s k

    short_met : Settles tool r p → IsMet (45 ∷ y ∷ ys)
    short_met s = search (rules, no_char_taken, short_refused)

  -- ---- a word that begins with two

  long_refused : (name : Text) (o : Option Rule) → IsLong tool name o → (v : Option Text) →
      Settles tool r p → (v ≡ None → IsName tool name → ⊥) →
      long_fault (rules_of tool) false o v (holding r p) ≡ [] → ⊥
  long_refused name o h v h2 h3 h4 = search rules

  pub long_met : (z : ℕ) (zs : Text) → is_flag tool (long_word (z ∷ zs)) ≡ false →
      Settles tool r p → Passes tool (at r p n) (long_word (z ∷ zs)) → ⊥
  long_met z zs flag s f = long_refused _ _ (longs_of tool _) _ s
      (λ none has. true≢false (sym (subst (IsName tool) {y = z ∷ zs}
      (search (rules, whole, no_mark)) has) ∙ flag)) (or_nil _ _ f).0

  -- a word that is no flag is taken for a name, or refused
  abbrev pub NameMet : Text → Type 0
  NameMet word = is_flag tool word ≡ false → bytes_eq word (codes "--") ≡ false →
      Settles tool r p → IsMet word

  pub name_met : (word : Text) → NameMet word
  name_met [] flag mark s = inl (plain_word_taken [] refl refl refl)
  name_met (x ∷ xs) flag mark s = go (x == 45) refl xs flag mark s
    where
      third : (ys : Text) → NameMet (long_word ys)
      third [] flag mark s = cc
      third (z ∷ zs) flag mark s = inr (long_met z zs flag s)

      second : (y : ℕ) (ys : Text) (b : Bool) → (y == 45) ≡ b → NameMet (45 ∷ y ∷ ys)
      second y ys false e flag mark s = short_met y ys e s
      second y ys true e flag mark s =
          rw (nat_eq_same y 45 e) (third ys (grind arith) (grind arith) s)

      go : (b : Bool) → (x == 45) ≡ b → (xs : Text) → NameMet (x ∷ xs)
      go false e xs flag mark s = inl (plain_taken x xs e)
      go true e [] flag mark s = grind (arith, hyphen_taken)
      go true e (y ∷ ys) flag mark s = rw (nat_eq_same x 45 e)
          (second y ys (y == 45) refl (grind arith) (grind arith) s)
