-- What was read, of a source that is used up.
use Rattle.cnf_base.proofs.StreamLemmas.{Consumes-failed, look_filled, still_nothing}
use Rattle.std.proofs.{Common.{[], ap, arith, rules, ◌∙◌}, lemmas.Grind.common_steps}
use Rattle.cnf_base.proofs.source.Source.fill.Goals as goal

pub returns-in-Some-eq0-clause-look : goal.returns-in-Some-eq0-clause-look
returns-in-Some-eq0-clause-look g c =
    let nothing = ap (λ s. s.ahead) c.self.view_is ∙ c.requires in
    rw (← c.self.view_is) (grind (arith, common_steps, still_nothing))

pub returns-in-Some-clause-look : goal.returns-in-Some-clause-look
returns-in-Some-clause-look g c =
    let nothing = ap (λ s. s.ahead) c.self.view_is ∙ c.requires in
    rw (← c.self.view_is) (grind (arith, common_steps))

pub returns-in-None-clause-look : goal.returns-in-None-clause-look
returns-in-None-clause-look g c =
    let nothing = ap (λ s. s.ahead) c.self.view_is ∙ c.requires in
    rw (← c.self.view_is) (look_filled _ _ [] nothing (still_nothing _ _ _ _ c.self.invariant.ordered c.self.invariant.within nothing) (Consumes-failed _ _ (search rules)) (grind (arith, common_steps)) (omega arith) (search rules) (search rules) (search rules) (search rules) (search rules))
