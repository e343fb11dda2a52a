-- What holds of the definitions. Each is the contract of a function of `laws`. That RUP, RAT and
-- PR keep satisfiability is known of DRAT and DPR proofs; the other laws are our own.
use Rattle.std.specs.Prelude.{◌≡◌, ℕ, List, [], ◌∷◌, Ok, IsTrue, slice_get, sum_by, map}
use Rattle.theory.specs.declared.accepted.Accepted.{Accepted}
use Rattle.theory.specs.declared.accepted.Accepted.TheVariants.{Rup, Rat, Pr, Empty}
use Rattle.cnf_base.specs.Literals.{Literal, Clause, has, same_clause, size}
use Rattle.theory.specs.Propagation.{Live, Forced, Clash, HasRup, HasRat, HasPr}
use Rattle.theory.specs.Models.{Assignment, holds, satisfies, Models, HasModel}
use Rattle.theory.specs.Answers.{StepAnswer}
use Rattle.theory.specs.Drat.{DratStep, AnswersDrat, after_drat, SameLive}
use Rattle.theory.specs.Lrat.{Group, LratState, LratStep, add, AnswersLrat, chain, conflict}
use Rattle.theory.specs.Lrat.{with_clause, without_ids, SameClauses}
use Rattle.theory.specs.Sizes.{total}
use Rattle.theory.specs.Rules.{Rule, drat, State, start, Answers, after, IsSatisfiable, IsFinite}
use Rattle.theory.specs.Losses.{StepLoses}
use Rattle.theory.specs.Verdicts.{Ending, verified, Verdict, DeletesReason, DeletedReason}
use Rattle.proofs.specs.Steps.{Step}
use Rattle.theory.specs.declared.drat_rules.DratRules.{DratRules}
use Rattle.theory.specs.Renaming.{renamed, step_renamed, answer_renamed, ending_renamed, IsRenamed}
use Rattle.theory.specs.Renaming.{IsUndone, AreUndone, StepsAreUndone}

-- Under every assignment that makes the live clauses and the assumed literals true, what is forced
-- is true.
abbrev pub ForcedIsTrue : Type 0
ForcedIsTrue = (v : Assignment) (live : Live) (assumed : List Literal) (l : Literal) →
    Models v live → ((a : Literal) → IsTrue (has assumed a) → IsTrue (holds v a)) →
    Forced live assumed l → IsTrue (holds v l)

-- A clause with RUP is true in every model.
abbrev pub RupIsImplied : Type 0
RupIsImplied = (v : Assignment) (live : Live) (c : Clause) →
    Models v live → HasRup live c → IsTrue (satisfies v c)

-- Clauses that have a model have one in which a clause with RAT is true too.
abbrev pub RatKeepsModels : Type 0
RatKeepsModels = (live : Live) (c : Clause) (pivot : Literal) →
    HasRat live c pivot → HasModel live → (v : Assignment) × Models v live × IsTrue (satisfies v c)

-- Clauses that have a model have one in which a clause with PR is true too.
abbrev pub PrKeepsModels : Type 0
PrKeepsModels = (live : Live) (c : Clause) (witness : List Literal) →
    HasPr live c witness → HasModel live → (v : Assignment) × Models v live × IsTrue (satisfies v c)

-- A walk from literals that are forced, which ends in a conflict, shows a clash.
abbrev pub ChainShowsClash : Type 0
ChainShowsClash = (live : Live) (assumed start : List Literal) (hints : List ℕ) →
    ((a : Literal) → IsTrue (has start a) → Forced live assumed a) →
    chain live start hints ≡ conflict → Clash live assumed

-- what a clause has that was accepted with this word
abbrev pub IsRedundant : Live → List Literal → Accepted → Type 0
IsRedundant live c Rup = HasRup live c
IsRedundant live [] Empty = HasRup live []
IsRedundant live (pivot ∷ rest) Rat = HasRat live (pivot ∷ rest) pivot
IsRedundant live c Pr = (set : List Literal) × HasPr live c set
IsRedundant live c _ = ⊥

-- An addition that the LRAT rule accepts has RUP, or RAT on the first literal written.
abbrev pub LratShowsRedundant : Type 0
LratShowsRedundant = (state : LratState) (id : ℕ) (c : List Literal) (units : List ℕ)
    (groups : List Group) (word : Accepted) →
    AnswersLrat state (add id c units groups) (Ok word) → IsRedundant state.live c word

-- An accepted step leaves clauses that have a model if those before it have one.
abbrev pub KeepsModels : Type 0
KeepsModels = (state : State) (step : Step) (word : Accepted) → Answers state step (Ok word) →
    IsSatisfiable state → IsSatisfiable (after state step word)

-- A formula that is verified has no model.
abbrev pub IsSoundVerdict : Type 0
IsSoundVerdict = (rule : Rule) (formula : List Clause) (steps : List Step) (words : List Accepted) →
    Verdict rule formula steps words verified → ¬ HasModel (slice_get formula)

-- The steps of a DRAT proof are accepted with these words, one by one, and leave these clauses.
abbrev pub Leads : DratRules → List Clause → List DratStep → List Accepted → List Clause → Type 0
Leads rules live [] [] last = last ≡ live
Leads rules live (step ∷ steps) (word ∷ words) last =
    AnswersDrat rules live step (Ok word) × Leads rules (after_drat live step word) steps words last
Leads rules live steps words last = ⊥

-- Where the rules keep units, a literal that follows with nothing assumed follows after every
-- later accepted step (our own profile; a solver that deletes reason clauses counts on it).
abbrev pub UnitsAreKept : Type 0
UnitsAreKept = (rules : DratRules) (live last : List Clause) (steps : List DratStep)
    (words : List Accepted) (l : Literal) →
    IsTrue rules.keep_units → Leads rules live steps words last →
    Forced (slice_get live) [] l → Forced (slice_get last) [] l

-- Where the rules keep units, no clause is deleted that is the reason of a root-level literal (our
-- own profile).
abbrev pub ReasonsAreKept : Type 0
ReasonsAreKept = (rules : DratRules) (formula : List Clause) (steps : List Step)
    (words : List Accepted) (ending : Ending) →
    IsTrue rules.keep_units → Verdict (drat rules) formula steps words ending →
    ¬ DeletedReason (start (drat rules) formula) steps words

-- A deletion that loses a root-level literal is of a clause that was the reason of one (our own
-- profile).
abbrev pub LostWithReason : Type 0
LostWithReason = (state : State) (step : Step) (word : Accepted) →
    StepLoses state step word → DeletesReason state step word

-- A step has at most one answer.
abbrev pub AnswersAreUnique : Type 0
AnswersAreUnique = (state : State) (step : Step) (first second : StepAnswer) →
    Answers state step first → Answers state step second → first ≡ second

-- Each step has an answer, where the live clauses are finitely many.
abbrev pub AnswersExist : Type 0
AnswersExist = (state : State) (step : Step) →
    IsFinite state → (answer : StepAnswer) × Answers state step answer

-- A proof has at most one verdict.
abbrev pub VerdictsAreUnique : Type 0
VerdictsAreUnique = (rule : Rule) (formula : List Clause) (steps : List Step)
    (first second : List Accepted) (ending other : Ending) →
    Verdict rule formula steps first ending → Verdict rule formula steps second other →
    (first ≡ second) × (ending ≡ other)

-- Each proof has a verdict.
abbrev pub VerdictsExist : Type 0
VerdictsExist = (rule : Rule) (formula : List Clause) (steps : List Step) →
    (words : List Accepted) × (ending : Ending) × Verdict rule formula steps words ending

-- The answer to a DRAT step, and what is alive after it, depend only on how many copies of each
-- clause are alive.
abbrev pub OnlyCopiesCount : Type 0
OnlyCopiesCount =
    ((rules : DratRules) (first second : List Clause) (step : DratStep) (answer : StepAnswer) →
    SameLive first second →
    AnswersDrat rules first step answer → AnswersDrat rules second step answer)
    × ((first second : List Clause) (step : DratStep) (word : Accepted) →
    SameLive first second → SameLive (after_drat first step word) (after_drat second step word))

-- The answer to an LRAT step depends only on the sets of the live clauses, and so does what is
-- alive after it.
abbrev pub OnlySetsCount : Type 0
OnlySetsCount =
    ((first second : Live) (top : ℕ) (step : LratStep) (answer : StepAnswer) →
    SameClauses first second →
    AnswersLrat (record { live = first; top = top }) step answer →
    AnswersLrat (record { live = second; top = top }) step answer)
    × ((first second : Live) (id : ℕ) (c d : Clause) →
    SameClauses first second → IsTrue (same_clause c d) →
    SameClauses (with_clause first id c) (with_clause second id d))
    × ((first second : Live) (ids : List ℕ) →
    SameClauses first second → SameClauses (without_ids first ids) (without_ids second ids))

-- States with the same clauses have the same sum of sizes.
abbrev pub EqualSetsEqualTotals : Type 0
EqualSetsEqualTotals = (first second : LratState) →
    SameClauses first.live second.live → first.top ≡ second.top → total first ≡ total second

-- Lists with as many copies of each clause have the same sum of sizes.
abbrev pub EqualCopiesEqualSums : Type 0
EqualCopiesEqualSums = (first second : List Clause) →
    SameLive first second → sum_by size first ≡ sum_by size second

-- Names don't matter: over clauses with new names a step with new names has the same answer, whose
-- pivot has its new name, and leaves the same clauses with new names. No two variables of the
-- clauses and the step may get one name.
abbrev pub NamesDontMatter : Type 0
NamesDontMatter =
    (name back : ℕ → ℕ) (first second : State) (step : Step) (answer : StepAnswer) →
    IsRenamed name back first second → IsUndone name back step.lits → Answers first step answer →
    Answers second (step_renamed (renamed name) step) (answer_renamed (renamed name) answer)
    × ((word : Accepted) → answer ≡ Ok word → IsRenamed name back (after first step word)
    (after second (step_renamed (renamed name) step) word))

-- A proof with new names has the same verdict on the formula with new names.
abbrev pub VerdictsKeepUnderNames : Type 0
VerdictsKeepUnderNames = (name back : ℕ → ℕ) (rule : Rule) (formula : List Clause)
    (steps : List Step) (words : List Accepted) (ending : Ending) →
    AreUndone name back (slice_get formula) → StepsAreUndone name back steps →
    Verdict rule formula steps words ending →
    Verdict rule (map (map (renamed name)) formula) (map (step_renamed (renamed name)) steps) words
    (ending_renamed (renamed name) ending)
