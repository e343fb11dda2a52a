-- What deletions lose, from what propagation over the slots says.
use Rattle.{clause_db.specs.Store.literals_in, propagation.specs.declared.answer.Answer.Answer}
use Rattle.{cnf_base.proofs.MapLemmas.{after_remove, sum_remove}, theory.specs.Losses.DeleteLoses}
use Rattle.cnf_base.proofs.SetLemmas.{same_back, same_itself, same_symm, same_there}
use Rattle.cnf_base.specs.Literals.{Clause, Literal, has, same_clause}
use Rattle.drat_steps.proofs.DratLemmas.Steps.{covered_by_slots, reason-slots, slots-clash}
use Rattle.drat_steps.proofs.DratLemmas.Steps.{slots-reason, slots-remove, slots_covered}
use Rattle.drat_steps.proofs.DratLemmas.Terms.{Clauses, IsFound, listed}
use Rattle.propagation.specs.Assumptions.{Assuming, IsValue, Propagation, assumed_by}
use Rattle.std.proofs.Common.{Bool, IfOk, IsSome, List, Ok, Result, Some, [], arith, false, inl}
use Rattle.std.proofs.Common.{inr, is_some, refl, rules, slice_get, sym, true, ℕ, ◌↔◌, ◌≡◌, ◌≢◌}
use Rattle.std.proofs.{Common.{◌≤◌, ◌⊎◌}, lemmas.Bool.{cases_Bool, false≢true}}
use Rattle.theory.proofs.{DratLemmas.Copies.covers_of, PropagationLemmas.Forced.clash_through}
use Rattle.theory.proofs.LawLemmas.Losses.{no_reason_kept, none_held, still_held}
use Rattle.theory.proofs.PropagationLemmas.Covers.{Covers, clash_covers, forced_covers}
use Rattle.theory.specs.{Drat.{SameLive, take_off}, declared.accepted.Accepted.TheVariants.Deleted}
use Rattle.theory.specs.Propagation.{Clash, Forced, IsRootReason, Live, by_both}
use Rattle.trail.specs.declared.value.Value.{Value, TheVariants.{False, True}}
use Rattle.std.specs.FinMap as maps
use Rattle.propagation.specs.declared.answer.Answer.TheVariants as answers

-- ---- The clause in the slot, however the step writes it

module _ (live : Clauses) (slot : ℕ) (c lits : Clause) (there : maps.get live slot ≡ Some c)
    (same : same_clause c lits ≡ true) where
  abbrev left : Clauses
  left = maps.remove live slot

  abbrev left_list : Live
  left_list = slice_get (take_off lits (maps.values live))

  abbrev Loses : Type 0
  Loses = DeleteLoses (maps.values live) lits Deleted

  removed : Covers (maps.get left) (maps.get live)
  removed k d at = grind (arith, after_remove, same_itself)

  off : SameLive (maps.values left) (take_off lits (maps.values live))
  off = grind (arith, slots-remove, same_symm)

  held_listed : (l : Literal) → Forced (maps.get live) [] l → Forced (listed live) [] l
  held_listed l f = grind (arith, forced_covers, slots_covered)

  left_listed : (l : Literal) → Forced (maps.get left) [] l → Forced left_list [] l
  left_listed l f =
      forced_covers _ _ (covers_of _ _ off) [] l (grind (arith, forced_covers, slots_covered))

  left_slots : (l : Literal) → Forced left_list [] l → Forced (maps.get left) [] l
  left_slots l f = forced_covers _ _ (covered_by_slots left) [] l
      (forced_covers _ _ (covers_of _ _ (record { copies = λ e. sym (off.copies e) })) [] l f)

  -- it was no reason
  pub reasonless : ¬ IsRootReason (maps.get live) c → ¬ Loses
  reasonless none = search (rules, arith, no_reason_kept, reason-slots, same_symm)

  -- past a clash
  pub loses_past_clash : Clash (maps.get live) [] → IsRootReason (maps.get live) c →
      (true ≡ true) ↔ Loses
  loses_past_clash clash reason =
      (λ is. inl ((slots-clash live []).0 clash, slots-reason live c lits same reason), λ _. refl)

  module _ (quiet : ¬ Clash (maps.get live) []) where
    quiet_listed : ¬ Clash (listed live) []
    quiet_listed clash = quiet ((slots-clash live []).1 clash)

    -- no literal of it was root-level
    pub loses_nothing : ((l : Literal) → has c l ≡ true → ¬ Forced (maps.get live) [] l) → ¬ Loses
    loses_nothing none (inl p) = quiet_listed p.0
    loses_nothing none (inr p) =
        none_held _ lits quiet_listed (λ l member f. none l (same_back c lits same l member)
        (grind (arith, forced_covers, covered_by_slots))) p.1

    -- one did
    module _ (l : Literal) (member : has c l ≡ true) (held : Forced (maps.get live) [] l) where
      keeps_all : Forced (maps.get left) [] l → ¬ Loses
      keeps_all still (inl p) = quiet_listed p.0
      keeps_all still (inr p) = still_held (maps.values live) lits quiet_listed l
          (same_there c lits same l member) (held_listed l held) (left_listed l still) p.1

      pub loses_held : (lost : Bool) → (lost ≡ true → ¬ Forced (maps.get left) [] l) →
          (lost ≡ false → Forced (maps.get left) [] l ⊎ Clash (maps.get left) []) →
          (lost ≡ true) ↔ Loses
      loses_held lost gone stays = (
        λ h. inr (
          quiet_listed,
          record {
            literal = l;
            forced = held_listed l held;
            lost = λ f. gone h (left_slots l f);
          },
        ),
        λ loses. elim (cases_Bool lost) [
          | inl is ↦ is
          | inr not ↦ elim (stays not) [
            | inl still ↦ absurd (keeps_all still loses)
            | inr clash ↦ search (rules, arith, clash_covers, removed)
          ]
        ],
      )

-- ---- What is noted

-- a clause that was found was no reason
pub unlost : (had : Bool) (before after : Propagation) (slot : ℕ) (lits : Clause) →
    after ≡ before → IsFound before.live slot lits →
    ((e : Clause) → maps.get after.live slot ≡ Some e → ¬ IsRootReason (maps.get after.live) e) →
    (had ≡ true) ↔ ((had ≡ true) ⊎ DeleteLoses (maps.values before.live) lits Deleted)
unlost had before after slot lits same found none =
    let shown = rw same at none in
    let kept = reasonless before.live slot found.0 lits found.1 found.2 (shown found.0 found.1) in
    (λ h. inl h, λ told. elim told [ inl h ↦ h | inr loses ↦ absurd (kept loses) ])

-- nothing was noted before
pub noted_now : (had told : Bool) (X : Type 0) → had ≡ false → (told ≡ true) ↔ X →
    (told ≡ true) ↔ ((had ≡ true) ⊎ X)
noted_now had told X none tells = search rules

-- ---- Values

-- what isn't true doesn't follow, where nothing clashes
pub not_forced : (live : Live) (assumed : List Literal) (l : Literal) (v : Value) →
    ¬ Clash live assumed → IsValue live assumed l v → v ≢ True → ¬ Forced live assumed l
not_forced live assumed l False quiet is not f = quiet (by_both l f is)
not_forced live assumed l v quiet is not f = grind arith

-- ---- Nothing is assumed but what is

module _ {E : Type 0} (before after : Propagation) (answer : Answer)
    (idle : before.assumptions ≡ []) (assumed : Assuming {E = E} before after [] (Ok answer)) where
  pub has_clashed : answer ≡ answers.Clash → Clash (maps.get before.live) []
  has_clashed is = rw is at (rw idle at assumed.answer)

  pub is_quiet : answer ≡ answers.Quiet → ¬ Clash (maps.get before.live) []
  is_quiet is = rw is at (rw idle at assumed.answer)

  module _ (is : answer ≡ answers.Quiet) where
    abbrev now : List Literal
    now = assumed_by after.assumptions

    none_assumed : (l : Literal) → has now l ≢ true
    none_assumed l h = search rules

    pub forced_now : (l : Literal) → Forced (maps.get before.live) [] l →
        Forced (maps.get after.live) now l
    forced_now l f = search rules

    pub forced_before : (l : Literal) → Forced (maps.get after.live) now l →
        Forced (maps.get before.live) [] l
    forced_before l f = search rules

    pub no_clash_now : ¬ Clash (maps.get after.live) now
    no_clash_now clash = is_quiet is
        (clash_through _ _ [] (λ a h. absurd (none_assumed a h)) (rw assumed.live at clash))

-- ---- Results

pub if_ok_both : {A E : Type 0} (result : Result A E) (X Y Z : A → Type 0) →
    ((a : A) → X a → Y a → Z a) → IfOk result X → IfOk result Y → IfOk result Z
if_ok_both result X Y Z h h2 h3 = search rules

-- without a clause there are no more literals
pub fewer_literals : (live : Clauses) (slot : ℕ) → IsSome (maps.get live slot) →
    literals_in (maps.remove live slot) ≤ literals_in live
fewer_literals live slot alive = search (rules, arith, sum_remove, is_some, false≢true)
