-- By which lemmas the prover finds what functions promise.
use Rattle.{cnf_base.proofs.MemberLemmas.same_variable, std.proofs.lemmas.Result.on_ok_weaker}
use Rattle.{cnf_base.proofs.WalkLemmas.has_more, root_literals.proofs.RootLemmas.Shown.closure_held}
use Rattle.propagation.proofs.PropagationLemmas.Exact.{begins_on, longer_from}
use Rattle.root_literals.proofs.RootLemmas.Arranged.{arranged_more, arranged_nothing, one_inside}
use Rattle.root_literals.proofs.RootLemmas.{Carried.clashes, Watched.{front_in_front, left_false}}
use Rattle.root_literals.proofs.RootLemmas.{Reasons.{alive_clause, uses_none}, Shown.closure_shown}
use Rattle.std.proofs.{Common.{eq-eqb, eqb-true}, lemmas.{Grind.common_steps, Option.same_Some}}
use Rattle.std.proofs.{Common.{take_all, true≢false}, lemmas.Bool.{false≢true, Decides.nat_tests}}

-- whether a literal is used, and how often
pub ruleset use_steps = (common_steps, nat_tests, has_more, eq-eqb, eqb-true, false≢true)

pub ruleset unused_steps = (eqb-true, take_all, uses_none)

-- where a literal stands, and room for it
pub ruleset place_steps = (front_in_front, true≢false)

pub ruleset room_steps = (on_ok_weaker, same_variable)

-- clauses that are false, or have their literals in another order
pub ruleset left_steps = (clashes, left_false)

pub ruleset arranged_steps = (arranged_nothing, arranged_more, alive_clause, same_Some, one_inside)

-- what was begun, and what follows
pub ruleset begun_steps = (begins_on, longer_from, take_all)

pub ruleset closure_steps = (closure_held, closure_shown)
