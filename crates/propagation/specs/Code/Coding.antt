-- How the state of propagation is stored.
use Rattle.std.specs.Coded.{Coded, code_by, coded_bool, coded×, coded_ℕ, coded_list}
use Rattle.std.specs.FinMap as maps
use Rattle.std.specs.FinMap.{FinMap}
use Rattle.std.specs.Ordering.{nat_cmp}
use Rattle.std.specs.Prelude.{Bool, true, false, ◌≡◌, refl, ℕ, List}
use Rattle.cnf_base.specs.Literals.{Clause}
use Rattle.propagation.specs.Assumptions.{Assumption, AssumptionsState, Propagation}
use Rattle.propagation.specs.Scan.{ScanState}
use Rattle.propagation.specs.declared.answer.Answer.TheVariants.{Clash, Quiet}
use Rattle.propagation.specs.declared.answer.Answer.{Answer}

abbrev pub is_quiet : Answer → Bool
is_quiet Clash = false
is_quiet Quiet = true

abbrev pub answer_if_quiet : Bool → Answer
answer_if_quiet false = Clash
answer_if_quiet true = Quiet

pub answer_back : (a : Answer) → answer_if_quiet (is_quiet a) ≡ a
answer_back Clash = refl
answer_back Quiet = refl

abbrev pub answer_code : Coded Answer
answer_code = code_by Bool coded_bool is_quiet answer_if_quiet answer_back

abbrev pub assumption_code : Coded Assumption
assumption_code =
    code_by (Answer × List ℕ) (coded× answer_code (coded_list coded_ℕ)) (λ a. (a.answer, a.assumed))
    (λ p. record { answer = p.0; assumed = p.1 }) (λ _. refl)

abbrev pub assumptions_code : Coded AssumptionsState
assumptions_code =
    code_by
    ((List ℕ × List ℕ) × (List Assumption × List ℕ))
    (coded× (coded× (coded_list coded_ℕ) (coded_list coded_ℕ))
    (coded× (coded_list assumption_code) (coded_list coded_ℕ)))
    (λ s. ((s.trail.lits, s.trail.reserved), (s.assumptions, s.starts)))
    (λ p. record {
      trail = record { lits = p.0.0; reserved = p.0.1 };
      assumptions = p.1.0;
      starts = p.1.1;
    })
    (λ _. refl)

-- the tuple of its fields
abbrev pub propagation_code : Coded Propagation
propagation_code =
    code_by
    (FinMap nat_cmp Clause × (List Assumption × (ℕ × Bool)))
    (coded× (maps.code coded_ℕ (coded_list coded_ℕ))
    (coded× (coded_list assumption_code) (coded× coded_ℕ coded_bool)))
    (λ s. (s.live, (s.assumptions, (s.stored, s.has_refused))))
    (λ p. record { live = p.0; assumptions = p.1.0; stored = p.1.1.0; has_refused = p.1.1.1 })
    (λ _. refl)

-- the pair of its fields
abbrev pub scan_code : Coded ScanState
scan_code =
    code_by (Propagation × ℕ) (coded× propagation_code coded_ℕ) (λ s. (s.propagation, s.slots))
    (λ p. record { propagation = p.0; slots = p.1 }) (λ _. refl)
