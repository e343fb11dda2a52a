-- A formula is read, and loaded, clause by clause; what has no fault was read to its end; and claims.
use Rattle.cnf_base.proofs.{SeenLemmas.{Seen-fact, Seen-nothing, Seen-run}, SetLemmas.same_itself}
use Rattle.cnf_base.proofs.StreamLemmas.{Along-map, Along-none, Along-then, Along-within}
use Rattle.{cnf_base.specs.{Code.Seen.OfSeen, Text.listing_of}, dimacs.specs.Printing.IsModel}
use Rattle.{cnf_base.specs.Grammar.word_lines, sat_check.specs.FormulaReach.ReadsNoFurtherThanFault}
use Rattle.cnf_base.specs.{Literals.{Clause, Literal, has, same_clause, size}, Stream.unread_stream}
use Rattle.{cnf_base.specs.Printing.input_of, steps.specs.Session.{SessionState, fresh, view_of}}
use Rattle.cnf_base.specs.Stream.{Along, Input, Reader, Stream, Suffix, bytes_read, from_start}
use Rattle.cnf_base.specs.Text.{Listed, Listing, Spot, is_comment, lines_listing, lines_of}
use Rattle.cnf_base.specs.declared.{fault.Fault.{Fault, TheVariants.OutOfMemory}, place.Place.Place}
use Rattle.cnf_base.specs.declared.input.Ending.{Ending, TheVariants.{End, Failed}}
use Rattle.dimacs.{proofs.ModelGrammar.model_grammar, specs.Formula.{header_of, opened}}
use Rattle.dimacs.specs.Claim.{IsConsistent, Said, claim_among, claim_of, nothing}
use Rattle.dimacs.specs.Formula.{Body, body_among, ends_at, formula_at, formula_of, formula_with}
use Rattle.dimacs.specs.{Grammar.ModelText, Reading.{clauses_to_come, ends_to_come, unopened}}
use Rattle.dimacs.specs.Reading.{FormulaReading, GivesClause, GivesEnd, PassesNoEnd}
use Rattle.{dimacs.specs.declared.header.Header.Header, theory.proofs.LratLemmas.SameSets.with_same}
use Rattle.{drat_steps.proofs.DratLemmas.Steps.none_listed, std.proofs.lemmas.Option.none-some}
use Rattle.sat_check.specs.Code.{Checking.{IsLoaded, Loads, LoadsBody}, FormulaReach.LeavesFault}
use Rattle.std.proofs.Common.{Bool, Err, List, None, Ok, Result, Some, [], ap, append-nil, ◌≡◌, ◌≤◌}
use Rattle.std.proofs.Common.{append_assoc, arith, false, length, length-append, max, refl, reverse}
use Rattle.std.proofs.Common.{rules, slice_get, suc, sym, true, ℕ, ◌++◌, ◌+◌, ◌-◌, ◌||◌, ◌∙◌, ◌∷◌}
use Rattle.std.proofs.lemmas.List.{length_push, reverse-reverse, Folds.list_any-append}
use Rattle.std.proofs.lemmas.List.Sorted.{IsPermutation-reverse, list_any-IsPermutation}
use Rattle.{std.proofs.lemmas.List.Sums.sum_by-append, theory.specs.Sizes.{size_at, sum_to, total}}
use Rattle.{std.specs.{FinMap.get-empty, Ordering.nat_cmp}, steps.specs.ProofSession.View}
use Rattle.{std.specs.Prelude.IfOk, theory.proofs.DratLemmas.Copies.{copies-cons, none_alive}}
use Rattle.theory.proofs.LawLemmas.{Existence.numbered_above, Rules.{same_trans, sum_same}}
use Rattle.theory.proofs.LratLemmas.{LiveSets.SameClauses-eq, States.numbered_push, Sums.sum_with}
use Rattle.theory.specs.{Lrat.{lrat_start, numbered}, Rules.{sum_of, with_input}, Verdicts.is_empty}
use Rattle.theory.specs.Rules.{Rule, Same, State, by_copies, by_ids, drat, lrat, rule_of, start}
use Rattle.std.specs.FinMap as maps

-- ---- A whole input

-- nothing was read
pub seen_nothing : (P : Input → Type 0) (old new : Reader) → old ≡ new → ((i : Input) → P i) → OfSeen old new P
seen_nothing P old new same all = rw (← same) (grind (arith, Seen-nothing))

-- another fact of what was seen
pub seen_map : (old new : Reader) (P Q : Input → Type 0) → OfSeen old new P → ((i : Input) → P i → Q i) → OfSeen old new Q
seen_map old new P Q seen next =
    record { seen = seen.seen; fact = λ i s. next i (seen.fact i s) }

abbrev pub first_place : Place
first_place = record { line = 1; col = 1 }

-- a reader that was fresh was read
module _ (old : Reader) (borrows : List ℕ) (source last : Stream) (new : Reader)
    (is : source ≡ unread_stream old borrows) (kept : new ≡ last.reader) where
  -- what was made of what follows, and with how many bytes read
  pub seen_within : (P : Place → Suffix → Suffix → Type 0) → Along source last (P source.place) →
      OfSeen old new (λ i. (j : Suffix) × P first_place (from_start i) j × (bytes_read old new ≤ j.offset + 65536))
  seen_within P run = let fresh = unread_stream old borrows in
      let within = Along-within fresh last (P first_place) (omega arith) (rw is at run) in
      rw kept
      (record { seen = Seen-run old borrows last _ within; fact = grind (arith, Seen-fact) })

  -- the same without the number of bytes
  pub seen_run : (P : Place → Suffix → Type 0) → Along source last (λ i j. P source.place i) →
      OfSeen old new (λ i. P first_place (from_start i))
  seen_run P run = seen_map old new _ _ (seen_within (λ p i j. P p i) run) (λ i x. x.1)

-- ---- A formula's clauses

-- these clauses came first, with where each ends, and then what else there is
abbrev pub ReadsOn : FormulaReading → List Clause → Suffix → Body → List ℕ → Type 0
ReadsOn old clauses i after ends =
    (clauses_to_come old i ≡ record { clauses = clauses ++ after.clauses; fault = after.fault })
    × ((passed : List ℕ) × (length passed ≡ length clauses) × (ends_to_come old i ≡ passed ++ ends))

-- from one moment to another these clauses were read
pub record Reads (old now : FormulaReading) (clauses : List Clause) : Type 0 where
  pub count : length clauses ≡ now.complete
  pub run : Along old.stream now.stream
      (λ i j. ReadsOn old clauses i (clauses_to_come now j) (ends_to_come now j))
  pub header : now.header ≡ old.header

-- what a call of the reader gave
abbrev pub Gave : FormulaReading → FormulaReading → Result Bool Fault → Clause → Type 0
Gave now new result c = Along now.stream new.stream (λ i j.
    GivesClause result c (clauses_to_come now i) (clauses_to_come new j)
    × GivesEnd result (ends_to_come now i) (ends_to_come new j) j)

-- after these clauses no end was passed
abbrev pub NonePassed : FormulaReading → List Clause → Suffix → Suffix → Type 0
NonePassed old clauses i k =
    (later : Body) × (ends : List ℕ) × ReadsOn old clauses i later ends × PassesNoEnd ends k

-- the token at fault wasn't passed
abbrev pub FaultLeft : FormulaReading → Suffix → Suffix → Type 0
FaultLeft old i = LeavesFault (clauses_to_come old i).clauses (ends_to_come old i)

-- past the first numbers stand the others
pub past_first : (xs ys : List ℕ) (n m : ℕ) → n ≡ length xs + m → slice_get (xs ++ ys) n ≡ slice_get ys m
past_first (x ∷ xs) ys (suc n) m e = past_first xs ys n m (omega (arith, e))
past_first xs ys n m h = search rules

-- after clauses that were read, where no end of the others was passed, none from theirs on was
pub later_left : (read : List Clause) (old : FormulaReading) (i k : Suffix) (n offset : ℕ) →
    NonePassed old read i k → length read ≤ n → slice_get (ends_to_come old i) n ≡ Some offset
    → k.offset ≤ offset
later_left read old i k n offset passed least at =
    passed.3 (n - length read) offset (grind (arith, past_first))

-- so the token at fault wasn't
pub fault_left : (read : List Clause) (old : FormulaReading) (i k : Suffix) →
    NonePassed old read i k → FaultLeft old i k
fault_left read old i k passed offset at =
    later_left read old i k _ offset passed (grind (arith, length-append)) at

-- after these clauses comes the fault; want of memory says nothing
abbrev pub FaultAfter : List Clause → Fault → Body → Type 0
FaultAfter cs OutOfMemory b = Unit {0}
FaultAfter cs f b = b ≡ record { clauses = cs; fault = Some f }

pub Reads-start : (r : FormulaReading) → r.complete ≡ 0 → Reads r r []
Reads-start r none =
    record { count = cc; run = Along-map _ _ _ _ (Along-none _) (grind arith); header = refl }

module _ (old now new : FormulaReading) (clauses : List Clause) (so_far : Reads old now clauses)
    (c : Clause) where
  pub Reads-clause : Gave now new (Ok true) c → new.complete ≡ now.complete + 1
      → new.header ≡ now.header → Reads old new (clauses ++ c ∷ [])
  Reads-clause gives count header = record {
    count = grind (arith, length_push);
    run = Along-then _ _ _ _ _ _ so_far.run gives (λ i j k m p q. (
      search (rules, append_assoc),
      (p.1.0 ++ k.offset ∷ [], search (rules, arith, length-append), search (rules, append_assoc)),
    ));
    header = header ∙ so_far.header;
  }

  pub Reads-done : Gave now new (Ok false) c → Along old.stream new.stream (λ i j.
      (clauses_to_come old i ≡ record { clauses = clauses; fault = None }) × NonePassed old clauses i j)
  Reads-done gives = search (rules, Along-then, append-nil, so_far.run)

  pub Reads-fault : (f : Fault) → Gave now new (Err f) c → Along old.stream new.stream
      (λ i j. FaultAfter clauses f (clauses_to_come old i) × NonePassed old clauses i j)
  Reads-fault f gives = search (rules, Along-then, append-nil, so_far.run)

-- what a call gave, by its answer's pattern
pub clause_told : (now new : FormulaReading) (result answer : Result Bool Fault) (c : Clause) → Gave now new result c → result ≡ answer → Gave now new answer c
clause_told now new result answer c gives is = search rules

-- ---- The token at fault

-- where nothing was read it wasn't passed
pub unread_fault : (i : Input) (old new : Reader) → old ≡ new → ReadsNoFurtherThanFault i old new
unread_fault i old new same offset at = search rules

-- ---- Clauses go into a session one by one

-- one clause more, and its size more
total_push : (cs : List Clause) (c : Clause) → total (lrat_start (cs ++ c ∷ [])) ≡ total (lrat_start cs) + size c
total_push cs c =
    ap (λ n. sum_to n (λ k. size_at (numbered (cs ++ c ∷ []) k))) (length_push cs c)
    ∙ sum_with (numbered cs) (numbered (cs ++ c ∷ [])) (length cs) (length cs + 1) c (omega arith)
    (numbered_above cs) (λ k. sym (numbered_push cs c k))

-- the next clause of a formula
start_push : (rule : Rule) (cs : List Clause) (c : Clause) → Same (with_input (start rule cs) c) (start rule (cs ++ c ∷ []))
start_push lrat cs c = grind (arith, SameClauses-eq, numbered_push, length_push)
start_push (drat rules) cs c = search (rules, arith, copies-cons, sum_by-append)

input_same : (s t : State) (c : Clause) → Same s t → Same (with_input s c) (with_input t c)
input_same (by_ids s) (by_ids t) c same = search (rules, arith, with_same, same_itself)
input_same (by_copies a x) (by_copies b y) c same = search (rules, arith, copies-cons)
input_same s t c same = absurd same

pub loaded_more : (rule : Rule) (old new : View) (cs : List Clause) (c : Clause) → IsLoaded rule old cs → Same new.state (with_input old.state c) →
    new.is_verified ≡ (old.is_verified || is_empty c) → new.peak ≡ max old.peak (sum_of new.state)
    → new.has_stepped ≡ false → new.is_ended ≡ false → new.has_lost_literal ≡ old.has_lost_literal
    → old.room ≤ new.room + 1 → IsLoaded rule new (cs ++ c ∷ [])
loaded_more rule old new cs c l state verified peak unstepped sound reason room =
    search (rules, same, list_any-append, sum_same, total_push, sum_by-append, length_push)
  where
    same : Same new.state (start rule (cs ++ c ∷ []))
    same = same_trans _ _ _ state
        (same_trans _ _ _ (input_same _ _ c l.state) (start_push rule cs c))

-- a session that is new
pub unused : (rule : Rule) (s : SessionState) → s ≡ fresh rule → IsLoaded (rule_of (view_of s).state) (view_of s) []
unused rule s is = rw is (search (rules, arith, none_held))
  where
    none_there : (e : Clause) (k : ℕ) (c : Clause) → maps.get (fresh lrat).held.live k ≡ Some c → same_clause c e ≡ true → ⊥
    none_there e k c at same = absurd (none-some c (sym (get-empty nat_cmp k) ∙ at))

    none_held : (rule : Rule) → Same (view_of (fresh rule)).state
        (start (rule_of (view_of (fresh rule)).state) [])
    none_held lrat = search (rules, arith, get-empty)
    none_held (drat rules) = search (arith, none_alive, none_listed, none_there)

-- ---- Clauses that were read and input

-- from one moment to another these clauses were read, and input
pub record Loading (rule : Rule) (old now : FormulaReading) (s : View) : Type 0 where
  pub clauses : List Clause
  pub reads : Reads old now clauses
  pub loaded : IsLoaded rule s clauses

-- what was loaded of the clauses that were to come, and that the token at fault wasn't passed
abbrev pub Loaded : Rule → FormulaReading → Stream → View → Result (Unit {0}) Fault → Type 0
Loaded rule r last s result =
    Along r.stream last (λ i j. LoadsBody rule s result (clauses_to_come r i) × FaultLeft r i j)

pub loading_start : (rule : Rule) (r : FormulaReading) (s : View) → IsLoaded rule s [] → r.complete ≡ 0 → Loading rule r r s
loading_start rule r s loaded none = search (rules, Reads-start)

module _ (rule : Rule) (old now new : FormulaReading) (s : View)
    (so_far : Loading rule old now s) (t : View) (c : Clause) where
  pub Loading-clause : Gave now new (Ok true) c → IsLoaded rule t (so_far.clauses ++ c ∷ []) →
      new.complete ≡ now.complete + 1 → new.header ≡ now.header → Loading rule old new t
  Loading-clause gives loaded count header = search (rules, loaded, Reads-clause)

  pub Loading-done : Gave now new (Ok false) c → Loaded rule old new.stream s (Ok tt)
  Loading-done gives =
      Along-map _ _ _ _ (Reads-done old now new so_far.clauses so_far.reads c gives)
      (λ i j m e. search (rules, e.0, so_far.loaded, fault_left))

  pub Loading-fault : (f : Fault) (result : Result (Unit {0}) Fault) → result ≡ Err f →
      Gave now new (Err f) c → Loaded rule old new.stream t result
  Loading-fault f result is gives =
      rw is (Along-map _ _ _ _ (Reads-fault old now new so_far.clauses so_far.reads c f gives)
      (λ i j m e. search (rules, by, fault_left)))
    where
      by : (f : Fault) (b : Body) → FaultAfter so_far.clauses f b → LoadsBody rule t (Err f) b
      by f b h = search rules

  pub Loading-refused : Gave now new (Ok true) c → Loaded rule old new.stream t (Err OutOfMemory)
  Loading-refused gives = Along-then _ _ _ _ _ _ so_far.reads.run gives
      (λ i j k m p q. (tt, fault_left so_far.clauses old i k (_, _, p, q.1.1)))

-- ---- A whole formula, loaded

-- the header has a fault, which was not passed, or it has none
abbrev pub Unopened : Stream → Stream → Fault → Type 0
Unopened source last f = Along source last
    (λ i j. (formula_at source.place i ≡ unopened f) × PassesNoEnd (ends_at source.place i) j)

abbrev pub Opens : Stream → FormulaReading → Type 0
Opens source r = Along source r.stream (λ i j.
    (formula_at source.place i ≡ opened r.header (clauses_to_come r j))
    × (ends_at source.place i ≡ ends_to_come r j))

abbrev pub AllLoads : Rule → View → Reader → Reader → Result Header Fault → Type 0
AllLoads rule s left new result = OfSeen left new
    (λ i. Loads rule s result (formula_of i) × ReadsNoFurtherThanFault i left new)

-- nothing was read
pub loads_refused : (rule : Rule) (s : View) (left new : Reader) (result : Result Header Fault) → left ≡ new → result ≡ Err OutOfMemory → AllLoads rule s left new result
loads_refused rule s left new result same is = search (rules, arith, seen_nothing)

module _ (rule : Rule) (s : View) (left : Reader) (borrows : List ℕ) (source : Stream)
    (is : source ≡ unread_stream left borrows) (last : Stream) (new : Reader)
    (kept : new ≡ last.reader) where
  all_loads : (result : Result Header Fault) → Along source last (λ i j. Loads rule s result
      (formula_at source.place i) × LeavesFault (formula_at source.place i).clauses
      (ends_at source.place i) j) → AllLoads rule s left new result
  all_loads result run = seen_map left new _ _ (seen_within left borrows source last new is kept
      (λ p i j. Loads rule s result (formula_at p i) × LeavesFault (formula_at p i).clauses
      (ends_at p i) j) run) (grind arith)

  pub loads_fault : (f : Fault) → Unopened source last f → AllLoads rule s left new (Err f)
  loads_fault f run = all_loads (Err f) (grind (arith, Along-map))

  module _ (r : FormulaReading) (opens : Opens source r) where
    pub loads_body : (h : Header) → h ≡ r.header → Loaded rule r last s (Ok tt) →
        AllLoads rule s left new (Ok h)
    loads_body h same body = all_loads (Ok h) (search (rules, Along-then, same))

    pub loads_body_fault : (f : Fault) (result : Result Header Fault) → result ≡ Err f →
        Loaded rule r last s (Err f) → AllLoads rule s left new result
    loads_body_fault f result is body = rw is (all_loads (Err f) (grind (arith, Along-then)))

-- ---- What is left of a text ends as the text does

listing_ending : (skips : Bool) (s : Spot) (lines : List (List ℕ)) (ending : Ending) →
    (lines_listing skips s lines ending).ending ≡ ending
listing_ending skips s (line ∷ next ∷ lines) ending =
    listing_ending (is_comment next) _ (next ∷ lines) ending
listing_ending skips s lines ending = refl

header_so : (e : Ending) (l : Listing) → l.ending ≡ e → IfOk (header_of l) (λ h. h.1.ending ≡ e)
header_so e l so = search rules

-- ---- Formulas

body_failed : (h : Header) (complete : ℕ) (literals : List Literal) (ts : List Listed) (p : Place)
    → (body_among h complete literals ts p Failed).fault ≡ None → ⊥
body_failed h complete literals [] p whole = cc
body_failed h complete literals (t ∷ ts) p whole =
    search (rules, (λ (n : ℕ) (ls : List Literal). body_failed h n ls ts p))

-- a formula without a fault was read to its end
pub formula_ends : (i : Input) → (formula_of i).fault ≡ None → i.ending ≡ End
formula_ends i whole = by i.ending refl
  where
    of_header : (r : Result (Header × Listing) (Fault × List ℕ)) →
        IfOk r (λ h. h.1.ending ≡ Failed) → (formula_with r).fault ≡ None → ⊥
    of_header r failed whole = grind (arith, body_failed)

    by : (e : Ending) → i.ending ≡ e → e ≡ End
    by End is = refl
    by Failed is = absurd (of_header (header_of (listing_of i))
        (header_so Failed (listing_of i) (listing_ending _ _ (lines_of i.bytes) i.ending ∙ is)) whole)

-- and it has a header
pub formula_header : (i : Input) → (formula_of i).fault ≡ None → (h : Header) × (formula_of i ≡
    record { header = Some h; clauses = (formula_of i).clauses; fault = None })
formula_header i whole = by (header_of (listing_of i)) whole
  where
    by : (r : Result (Header × Listing) (Fault × List ℕ)) → (formula_with r).fault ≡ None
        → (h : Header) × (formula_with r ≡
        record { header = Some h; clauses = (formula_with r).clauses; fault = None })
    by (Ok h) whole = search rules
    by (Err f) whole = cc

-- ---- Claims

claim_failed : (s : Said) (ts : List Listed) (p : Place) (listed : List Literal) →
    claim_among s ts p Failed ≡ Ok listed → ⊥
claim_failed s [] p listed ok = cc
claim_failed s (t ∷ ts) p listed ok = search (rules, (λ (r : Said). claim_failed r ts p listed))

-- an output whose claim has no fault was read to its end
pub claim_ends : (i : Input) (listed : List Literal) → claim_of i ≡ Ok listed → i.ending ≡ End
claim_ends i listed ok = by i.ending refl
  where
    by : (e : Ending) → i.ending ≡ e → e ≡ End
    by End is = refl
    by Failed is = let e : (listing_of i).ending ≡ Failed =
        listing_ending _ _ (lines_of i.bytes) i.ending ∙ is in
        absurd (claim_failed nothing (listing_of i).tokens (listing_of i).end listed (rw e at ok))

-- ---- The claim of a solver's output, as the grammar of the output has it

-- the order of literals says nothing
pub has_reverse : (ls : List Literal) (l : Literal) → has (reverse ls) l ≡ has ls l
has_reverse ls l = sym (list_any-IsPermutation _ ls (reverse ls) (IsPermutation-reverse ls))

-- the literals of a claim, in the order in which they are written
pub claim_text : (bytes : List ℕ) (listed : List Literal) → claim_of (input_of bytes) ≡ Ok listed
    → IsModel (reverse listed) × ModelText (word_lines bytes) (reverse listed)
claim_text bytes listed ok = model_grammar.read_is_written bytes (reverse listed)
    (grind (arith, reverse-reverse))

-- a claim holds no complements
pub claim_consistent : (i : Input) → IfOk (claim_of i) IsConsistent
claim_consistent i = by (claim_of i) refl
  where
    of_listed : (listed : List Literal) → claim_of i ≡ Ok listed → IsConsistent listed
    of_listed listed ok = let whole = rw (claim_ends i listed ok) at ok in
        search (rules, has_reverse, (claim_text i.bytes listed whole))

    by : (r : Result (List Literal) Fault) → claim_of i ≡ r → IfOk r IsConsistent
    by r h = search (rules, arith, of_listed)
