-- What holds of the fields of `Watch`.
use Rattle.std.specs.Coded.{Coded, code_by, coded×, coded_bool, coded_list, coded_ℕ}
use Rattle.std.specs.FinMap as maps
use Rattle.std.specs.FinMap.{FinMap}
use Rattle.std.specs.Ordering.{nat_cmp}
use Rattle.std.specs.Prelude.{ℕ, List, Bool, true, false, Option, refl, ◌≡◌, ◌<◌, length, IsTrue}
use Rattle.std.specs.Prelude.{IsSome}
use Rattle.cnf_base.specs.Literals.{size, Clause, Literal, has, variable}
use Rattle.tables.specs.ByKey.{at}
use Rattle.propagation.specs.Assumptions.{Propagation, AssumptionsState, roots_in}
use Rattle.propagation.specs.Code.Coding.{propagation_code}
use Rattle.propagation.specs.Code.Scan.{IsHeld}
use Rattle.propagation.specs.Slots.{unit_or_empty_clauses}
use Rattle.watch_lists.specs.Lists.{entries_in}
use Rattle.root_literals.specs.Order.{each_in_order}
use Rattle.root_literals.specs.Roots.{IsKept, IsStanding}
use Rattle.root_literals.specs.Uses.{times}
use Rattle.propagation.specs.Code.Closure.{AreForced}
use Rattle.root_literals.specs.Watched.{AreWatched}
use Rattle.watch_lists.specs.Watched.{HasAll, IsUnitList}
use Rattle.watch.specs.State.{WatchState}
use Rattle.watch_lists.specs.declared.lists.WatchLists.{WatchLists}
use Rattle.root_literals.specs.declared.roots.Roots.{Roots}

-- how many different variables there are
abbrev pub variables_in : List ℕ → ℕ
variables_in reserved = size reserved

-- the tuple of its fields
abbrev pub watch_code : Coded WatchState
watch_code =
    code_by
    ((Propagation × ℕ) × (((ℕ × ℕ) × (ℕ × ℕ)) × (List ℕ × (Bool × (Bool × Bool)))))
    (coded× (coded× propagation_code coded_ℕ)
    (coded× (coded× (coded× coded_ℕ coded_ℕ) (coded× coded_ℕ coded_ℕ))
    (coded× (coded_list coded_ℕ) (coded× coded_bool (coded× coded_bool coded_bool)))))
    (λ s. (
      (s.propagation, s.slots),
      (
        ((s.entries, s.unit_entries), (s.trues, s.variables)),
        (s.roots, (s.is_loading, (s.is_up_to_date, s.has_conflict))),
      ),
    ))
    (λ p. record {
      propagation = p.0.0;
      slots = p.0.1;
      entries = p.1.0.0.0;
      unit_entries = p.1.0.0.1;
      trues = p.1.0.1.0;
      variables = p.1.0.1.1;
      roots = p.1.1.0;
      is_loading = p.1.1.1.0;
      is_up_to_date = p.1.1.1.1.0;
      has_conflict = p.1.1.1.1.1;
    })
    (λ _. refl)

-- there is room for the reasons of both literals of each of these variables
abbrev pub HaveReasons : List ℕ → (Literal → Option ℕ) → Type 0
HaveReasons variables reason_of =
    (l : Literal) → IsTrue (has variables (variable l)) → IsSome (reason_of l)

-- there may be room for more variables, and for the reasons of more literals; else all is as it was
pub record AddsRoom (held now : AssumptionsState) (roots roots_now : Roots) : Type 0 where
  pub reserved : (v : ℕ) → IsTrue (has held.trail.reserved v) → IsTrue (has now.trail.reserved v)
  pub lits : now.trail.lits ≡ held.trail.lits
  pub assumptions : now.assumptions ≡ held.assumptions
  pub starts : now.starts ≡ held.starts
  pub reasons : (k : Literal) → IsSome (at roots.reasons k) →
      at roots_now.reasons k ≡ at roots.reasons k
  pub kept : roots_now.kept ≡ roots.kept
  pub history : roots_now.history ≡ roots.history
  pub counted : roots_now.uses.counted ≡ roots.uses.counted
  pub times : (k : Literal) → times roots_now.uses k ≡ times roots.uses k

-- the lists have no entries, and each clause can have some
pub record HasNone (live : FinMap nat_cmp Clause) (lists : WatchLists) : Type 0 where
  pub none : entries_in lists ≡ 0
  pub low : (s : ℕ) → IsSome (maps.get live s) → s < 2147483648

-- while clauses are loaded the lists are still to be made
abbrev pub AreLists : Bool → FinMap nat_cmp Clause → WatchLists → Type 0
AreLists true live lists = HasNone live lists
AreLists false live lists = HasAll live lists

-- of what is held nothing follows that isn't true; the lists have what they should; what is false
-- is watched; what is kept of the literals that are true with nothing assumed is so; and each
-- literal of a variable that is reserved can have a reason
pub record IsWatch (is_loading : Bool) (live : FinMap nat_cmp Clause) (lists : WatchLists)
    (units : List ℕ) (roots : Roots) (held : AssumptionsState) : Type 0 where
  pub scan : IsHeld (each_in_order live) (AreForced (maps.get (each_in_order live))) held
  pub listed : AreLists is_loading live lists
  pub rest : IsUnitList (maps.get live) units
  pub watched : AreWatched (maps.get live) held.trail.lits held.assumptions held.starts
  pub one_each : length units ≡ unit_or_empty_clauses live
  pub kept : IsKept live roots (roots_in held.trail.lits held.assumptions held.starts)
  pub standing : IsStanding roots.kept held.assumptions
  pub noted : HaveReasons held.trail.reserved (at roots.reasons)
