-- Variables that assumptions noted, as assumptions come and go.
use Rattle.cnf_base.proofs.MemberLemmas.{has_mapped, has_place, place_of_variable}
use Rattle.cnf_base.proofs.{MemberLemmas.variable-complement, SetLemmas.has_append_right}
use Rattle.cnf_base.proofs.SetLemmas.{both_pass, complements_has, filter_has, has-complements}
use Rattle.cnf_base.proofs.SetLemmas.{has-filter, has_append_cases, has_append_left}
use Rattle.{cnf_base.proofs.WalkLemmas.{has_take, is_in}, std.proofs.Common.{◌≡◌, ◌≢◌, ◌≤◌, ◌⊎◌}}
use Rattle.cnf_base.specs.Literals.{Literal, complement, complements, has, variable}
use Rattle.{propagation.proofs.PropagationLemmas.Passes.still_set, theory.specs.Sets.SameSet}
use Rattle.propagation.specs.{Assumptions.{Assumption, MayAssume, assumed_by}, Code.Levels.pushed}
use Rattle.propagation.specs.Code.Levels.{AreLevels, IsLevel, IsNumbered, Notes, assumptions_of}
use Rattle.propagation.specs.Code.Levels.{first_number, is_noted, is_noted_by_two, of_variables}
use Rattle.propagation.specs.declared.{answer.Answer.TheVariants.Clash, levels.Level.Level}
use Rattle.propagation.specs.declared.levels.Levels.{Levels, TheVariants.{Nothing, One, Two}}
use Rattle.std.proofs.Common.{Bool, List, [], append-nil, arith, cond, eq-eqb, eqb-true, false}
use Rattle.std.proofs.Common.{filter, get_or, inl, inr, is_some, length, length-append, map, not}
use Rattle.std.proofs.Common.{refl, rules, subst, sym, take, true, ℕ, ◌++◌, ◌+◌, ◌/◌, ◌<◌, ◌∙◌, ◌∷◌}
use Rattle.std.proofs.lemmas.Bool.{cases_eq, false≢true, or_cases, or_left, or_right, true≢false}
use Rattle.std.proofs.lemmas.List.{take-append-le, Elements.{filter-append, filter_agree}}
use Rattle.tables.specs.ByKey.{at}
use Rattle.{tables.specs.declared.by_key.ByKey.ByKey, trail.proofs.TrailLemmas.MakesFalse.by_open}
use Rattle.trail.proofs.TrailLemmas.Truth.{more_cases, same_literal, variable_open}
use Rattle.trail.specs.{Numbers.number_at, Trail.{HasNoVariableTwice, TrailState}}

-- ---- Variables of lists

mapped_member : (ls : List ℕ) (v : ℕ) → has (map variable ls) v ≡ true → (k : ℕ) × (has ls k ≡ true)
    × (variable k ≡ v)
mapped_member ls v h = grind (arith, place_of_variable, has_place)

mapped_within : (first ls : List ℕ) (v : ℕ) → ((l : ℕ) → has first l ≡ true → has ls l ≡ true)
    → has (map variable first) v ≡ true → has (map variable ls) v ≡ true
mapped_within first ls v within h = grind (arith, mapped_member, has_mapped, within)

-- ---- What is assumed

-- the variables of the old literals that passed still do, and so do those of the rest, whose complements are true now
module _ (lits more rest : List Literal) (old new : ℕ → Bool)
    (keeps : (v : ℕ) → old v ≡ true → new v ≡ true)
    (splits : (v : ℕ) → new v ≡ true → (old v ≡ true) ⊎ (has (map variable rest) v ≡ true))
    (all : (l : Literal) → has rest l ≡ true → new (l / 2) ≡ true)
    (set : (v : ℕ) → old v ≡ true → has (map variable lits) v ≡ true)
    (added : SameSet more (lits ++ complements rest)) (apart : HasNoVariableTwice more) where
  within : (l : Literal) → has (of_variables new more) l ≡ true
      → has (of_variables old lits ++ complements rest) l ≡ true
  within l h =
      let w = filter_has (λ l. new (l / 2)) more l h in
      elim (splits (l / 2) w.1) [
        | inl o ↦
            let k = mapped_member lits (l / 2) (set (l / 2) o) in
            let same = same_literal more apart k.0 l (added k.0 ∙ has_append_left lits (complements rest) k.0 k.1) w.0 k.2 in
            grind (arith, has_append_left, has-filter)
        | inr r ↦
            let k = mapped_member rest (l / 2) r in let there = has-complements rest k.0 k.1 in
            let same = same_literal more apart (complement k.0) l (added (complement k.0) ∙ has_append_right lits (complements rest) (complement k.0) there) w.0 (variable-complement k.0 ∙ k.2) in
            grind (arith, has_append_right)
      ]

  back : (l : Literal) → has (of_variables old lits ++ complements rest) l ≡ true
      → has (of_variables new more) l ≡ true
  back l h =
      elim (has_append_cases (of_variables old lits) (complements rest) l h) [
        | inl g ↦ grind (arith, filter_has, has-filter, has_append_left)
        | inr g ↦
            has-filter (λ l. new (l / 2)) more l (grind (arith, has_append_right))
            (subst (λ v. new v ≡ true) (variable-complement l) (all (complement l) (complements_has rest l g)))
      ]

  pub assumed_same : SameSet (of_variables new more) (of_variables old lits ++ complements rest)
  assumed_same l = grind (arith, both_pass, within, back)

none_of : (lits : List Literal) → of_variables (λ v. false) lits ≡ []
none_of [] = refl
none_of (l ∷ lits) = none_of lits

-- ---- One more assumption

-- all that is assumed with it
abbrev pub pushed_assumed : (ℕ → ℕ) → List Literal → Levels → ℕ → List Literal
pushed_assumed number_of lits Nothing number = of_variables (is_noted number_of number) lits
pushed_assumed number_of lits (One first) number =
    of_variables (is_noted_by_two number_of first.number number) lits
pushed_assumed number_of lits (Two first second) number = []

pub notes_none : (first number : ℕ) (f : ℕ → ℕ) → Notes first number [] f f
notes_none first number f = grind (arith, false≢true)

module _ (before after : ℕ → ℕ) (made : ℕ) (lits more rest : List Literal) (levels : Levels) (low : (v : ℕ) → before v ≤ made) (are : AreLevels before made lits levels)
    (notes : Notes (first_number levels (made + 1)) (made + 1) rest before after) (begins : take (length lits) more ≡ lits) (longer : length lits ≤ length more)
    (level : Level) (number_is : level.number ≡ made + 1) (start_is : level.start ≡ length lits) where
  fresh : (v : ℕ) → before v ≢ made + 1
  fresh v e = grind arith

  pub pushed_low : (total : ℕ) → total ≡ made + 1 → (v : ℕ) → after v ≤ total
  pushed_low total e v = grind (arith, cases_eq)

  set_after : ((l : Literal) → has rest l ≡ true → has more (complement l) ≡ true) → (v : ℕ)
      → after v ≡ made + 1 → has (map variable more) v ≡ true
  set_after sets v e =
      let w = mapped_member rest v (notes.new v e (fresh v)) in
      subst (λ u. has (map variable more) u ≡ true) (variable-complement w.0 ∙ w.2)
      (has_mapped more (complement w.0) (sets w.0 w.1))

  level_after : ((l : Literal) → has rest l ≡ true → has more (complement l) ≡ true)
      → IsLevel after (made + 1) more level
  level_after sets = grind (arith, set_after)

-- the numbers of those that stood are as before
module _ (before after : ℕ → ℕ) (made : ℕ) (rest : List Literal) (first : Level) (first_low : first.number ≤ made) (notes : Notes first.number (made + 1) rest before after) where
  first_kept : (lits : List Literal) → of_variables (is_noted after first.number) lits ≡ of_variables (is_noted before first.number) lits
  first_kept lits = grind (arith, filter_agree, both_pass, eq-eqb, eqb-true)

module _ (before after : ℕ → ℕ) (made : ℕ) (lits more rest : List Literal) (low : (v : ℕ) → before v ≤ made) (begins : take (length lits) more ≡ lits) (longer : length lits ≤ length more) (level : Level) (number_is : level.number ≡ made + 1) (start_is : level.start ≡ length lits) where
  pushed_levels : (levels : Levels) → MayAssume (assumptions_of before lits levels) → AreLevels before made lits levels → Notes (first_number levels (made + 1)) (made + 1) rest before after →
      ((l : Literal) → has rest l ≡ true → has more (complement l) ≡ true) → AreLevels after (made + 1) more (pushed levels level)
  pushed_levels Nothing may are notes sets = search (rules, level_after)
  pushed_levels (One first) may are notes sets =
      grind (arith, level_after before after made lits more rest (One first) low are notes begins longer level number_is start_is sets)
  pushed_levels (Two first second) may are notes sets = absurd may

  pushed_is : (levels : Levels) → MayAssume (assumptions_of before lits levels) → AreLevels before made lits levels → Notes (first_number levels (made + 1)) (made + 1) rest before after →
      assumptions_of after more (pushed levels level) ≡ record { answer = level.answer; assumed = pushed_assumed after more levels level.number } ∷ assumptions_of before lits levels
  pushed_is levels h h2 h3 = grind (arith, first_kept)

  pushed_same : (levels : Levels) → MayAssume (assumptions_of before lits levels) → AreLevels before made lits levels → Notes (first_number levels (made + 1)) (made + 1) rest before after →
      SameSet more (lits ++ complements rest) → HasNoVariableTwice more → SameSet (pushed_assumed after more levels level.number) (assumed_by (assumptions_of before lits levels) ++ complements rest)
  pushed_same Nothing may are notes added apart =
      subst (λ n. SameSet (of_variables (is_noted after n) more) (complements rest)) (sym number_is)
      (subst (λ ls. SameSet (of_variables (is_noted after (made + 1)) more) (ls ++ complements rest)) (none_of lits)
      (grind (arith, assumed_same, false≢true, eqb-true, fresh, eq-eqb, cases_eq)))
  pushed_same (One first) may are notes added apart =
      grind (arith, assumed_same, or_left, eq-eqb, eqb-true, or_cases, cases_eq, or_right)
  pushed_same (Two first second) may are notes added apart = absurd may

-- the complements of what was made false are true
complements_true : (more lits rest : List Literal) → SameSet more (lits ++ complements rest)
    → (l : Literal) → has rest l ≡ true → has more (complement l) ≡ true
complements_true more lits rest added l h = grind (arith, has_append_right, has-complements)

-- So it is after it, where it is pushed as one that clashes.
module _ (trail after : TrailState) (numbers noted : ByKey ℕ) (made number start : ℕ) (levels : Levels) (rest : List Literal) (stood : List Assumption)
    (is : IsNumbered trail numbers made levels) (stood_are : assumptions_of (number_at numbers) trail.lits levels ≡ stood) (may : MayAssume stood) (number_is : number ≡ made + 1) (start_is : start ≡ length trail.lits)
    (first : ℕ) (first_is : first ≡ first_number levels number) (notes : Notes first number rest (number_at numbers) (number_at noted))
    (begins : take (length trail.lits) after.lits ≡ trail.lits) (longer : length trail.lits ≤ length after.lits) where
  abbrev pub clashing : Level
  clashing = record { number = number; start = start; answer = Clash }

  may_then : MayAssume (assumptions_of (number_at numbers) trail.lits levels)
  may_then = subst MayAssume (sym stood_are) may

  notes_here : Notes (first_number levels (made + 1)) (made + 1) rest (number_at numbers)
      (number_at noted)
  notes_here = grind arith

  pub pushed_seen : assumptions_of (number_at noted) after.lits (pushed levels clashing) ≡ record { answer = Clash; assumed = pushed_assumed (number_at noted) after.lits levels number } ∷ stood
  pushed_seen = grind (arith, pushed_is, clashing, may_then, notes_here)

  module _ (added : SameSet after.lits (trail.lits ++ complements rest)) where
    pub pushed_numbered : ((v : ℕ) → is_some (at noted v) ≡ is_some (at numbers v))
        → SameSet after.reserved trail.reserved
        → IsNumbered after noted number (pushed levels clashing)
    pushed_numbered known reserved = record {
      known = λ v h. known v ∙ is.known v (sym (reserved v) ∙ h);
      low = grind (arith, pushed_low, notes_here);
      levels_are = subst (λ n. AreLevels (number_at noted) n after.lits (pushed levels clashing))
          (sym number_is) (pushed_levels (number_at numbers) (number_at noted)
          made trail.lits after.lits rest is.low begins longer clashing number_is start_is levels
          may_then is.levels_are notes_here (complements_true after.lits trail.lits rest added));
    }

    pub pushed_assumes : HasNoVariableTwice after.lits → SameSet (pushed_assumed (number_at noted) after.lits levels number) (assumed_by stood ++ complements rest)
    pushed_assumes apart =
        grind (arith, pushed_same (number_at numbers) (number_at noted) made trail.lits after.lits rest is.low begins longer clashing number_is start_is levels may_then is.levels_are notes_here added apart)

-- ---- One more literal that is true

module _ (number_of : ℕ → ℕ) (made : ℕ) (lits : List Literal) (m : Literal) (unset : has (map variable lits) (variable m) ≡ false) where
  kept_of_set : (passes : ℕ → Bool) → ((v : ℕ) → passes v ≡ true → has (map variable lits) v ≡ true)
      → of_variables passes (lits ++ m ∷ []) ≡ of_variables passes lits
  kept_of_set passes set = grind (arith, filter-append, true≢false, append-nil)

  longer_level : (level : Level) → IsLevel number_of made lits level
      → IsLevel number_of made (lits ++ m ∷ []) level
  longer_level level is = grind (arith, length-append, still_set)

  pub made_levels : (levels : Levels) → AreLevels number_of made lits levels
      → AreLevels number_of made (lits ++ m ∷ []) levels
  made_levels Nothing are = tt
  made_levels (One first) are = longer_level first are
  made_levels (Two first second) are = search (rules, take-append-le, longer_level)

  pub made_assumptions : (levels : Levels) → AreLevels number_of made lits levels
      → assumptions_of number_of (lits ++ m ∷ []) levels ≡ assumptions_of number_of lits levels
  made_assumptions levels h =
      grind (arith, kept_of_set, eqb-true, take-append-le, has_take, or_cases, mapped_within)

module _ (number_of : ℕ → ℕ) (made : ℕ) (lits after : List Literal) (m : Literal) (is_open : Bool) (was : is_open ≡ not (has lits m)) (is : after ≡ cond is_open (lits ++ m ∷ []) lits) (not_false : has lits (complement m) ≡ false) (levels : Levels) (are : AreLevels number_of made lits levels) where
  pub true_levels : AreLevels number_of made after levels
  true_levels = grind (arith, by_open, made_levels, variable_open)

  pub true_assumptions : assumptions_of number_of after levels
      ≡ assumptions_of number_of lits levels
  true_assumptions = grind (arith, by_open, made_assumptions, variable_open)

-- ---- Variables noted one by one

-- those of the first i literals that pass are noted with this number, but for those that the first assumption noted
pub record NotesTo (first number : ℕ) (c : List Literal) (keeps : Literal → Bool) (i : ℕ) (before after : ℕ → ℕ) : Type 0 where
  pub old : (v : ℕ) → before v ≡ first → after v ≡ first
  pub changed : (v : ℕ) → after v ≢ number → after v ≡ before v
  pub new : (v : ℕ) → after v ≡ number → before v ≢ number → has (map variable (filter keeps c)) v ≡ true
  pub all : (l : Literal) → has (take i c) l ≡ true → keeps l ≡ true → after (l / 2) ≢ first → after (l / 2) ≡ number

module _ (first number : ℕ) (c : List Literal) (keeps : Literal → Bool) (before now : ℕ → ℕ) where
  pub noted_none : NotesTo first number c keeps 0 now now
  noted_none = grind (arith, false≢true)

  pub noted_whole : (i : ℕ) → take i c ≡ c → NotesTo first number c keeps i before now
      → Notes first number (filter keeps c) before now
  noted_whole i whole so_far = grind (arith, filter_has)

  module _ (i : ℕ) (inside : i < length c) (x : Literal) (is : x ≡ get_or c i x) (so_far : NotesTo first number c keeps i before now) where
    -- a literal that is left out
    pub noted_past : keeps x ≡ false → NotesTo first number c keeps (i + 1) before now
    noted_past out = grind (arith, more_cases, true≢false)

    module _ (next : ℕ → ℕ) (var : ℕ) (of_x : var ≡ x / 2) (other : (v : ℕ) → v ≢ var → next v ≡ now v) (old : now var ≡ first → next var ≡ first) (new : now var ≢ first → next var ≡ number) where
      pub noted_next : keeps x ≡ true → NotesTo first number c keeps (i + 1) before next
      noted_next kept = grind (arith, cases_eq, has_mapped, has-filter, is_in, more_cases)

pub ruleset true_steps = (true_levels, true_assumptions)
