-- How a session is stored.
use Rattle.std.specs.Coded.{Coded, code_by, coded×, coded_ℕ, coded_bool, coded_list, coded_option}
use Rattle.std.specs.FinMap as maps
use Rattle.std.specs.FinMap.{FinMap}
use Rattle.std.specs.Ordering.{nat_cmp}
use Rattle.std.specs.Prelude.{◌≡◌, ℕ, Bool, Option, Some, None, refl}
use Rattle.cnf_base.specs.Literals.{Clause}
use Rattle.theory.specs.Rules.{Rule, lrat, drat}
use Rattle.steps.specs.Session.{Held, SessionState}

-- a rule is stored as what DRAT has to choose
abbrev pub choice_of : Rule → Option (Bool × (Bool × Bool))
choice_of lrat = None
choice_of (drat rules) = Some (rules.strict, (rules.pr, rules.keep_units))

abbrev pub rule_by : Option (Bool × (Bool × Bool)) → Rule
rule_by None = lrat
rule_by (Some p) = drat (record { strict = p.0; pr = p.1.0; keep_units = p.1.1 })

abbrev pub rule_back : (rule : Rule) → rule_by (choice_of rule) ≡ rule
rule_back lrat = refl
rule_back (drat rules) = refl

abbrev pub rule_code : Coded Rule
rule_code =
    code_by (Option (Bool × (Bool × Bool)))
    (coded_option (coded× coded_bool (coded× coded_bool coded_bool))) choice_of rule_by rule_back

-- what is held and a session are stored as the pairs of their fields
abbrev pub held_code : Coded Held
held_code =
    code_by (Rule × (FinMap nat_cmp Clause × (ℕ × (ℕ × Bool))))
    (coded× rule_code
    (coded× (maps.code coded_ℕ (coded_list coded_ℕ))
    (coded× coded_ℕ (coded× coded_ℕ coded_bool))))
    (λ h. (h.rule, (h.live, (h.top, (h.stored, h.has_lost_literal)))))
    (λ p. record {
      rule = p.0;
      live = p.1.0;
      top = p.1.1.0;
      stored = p.1.1.1.0;
      has_lost_literal = p.1.1.1.1;
    })
    (λ _. refl)

abbrev pub session_code : Coded SessionState
session_code =
    code_by (Held × (Bool × (Bool × (Bool × ℕ))))
    (coded× held_code (coded× coded_bool (coded× coded_bool (coded× coded_bool coded_ℕ))))
    (λ s. (s.held, (s.has_stepped, (s.is_verified, (s.is_ended, s.peak)))))
    (λ p. record {
      held = p.0;
      has_stepped = p.1.0;
      is_verified = p.1.1.0;
      is_ended = p.1.1.1.0;
      peak = p.1.1.1.1;
    })
    (λ _. refl)
