use Rattle.{std.proofs.Common.{ap, min, ◌∙◌, ◌≡◌}, steps.proofs.StateLemmas.none_held}
use Rattle.steps.proofs.session.Session.over.Goals as goal

pub returns : goal.returns
returns g c =
    let held = g.J.Judge.held c.args.judge in
    let none = none_held held c.requires.empty c.requires.none_before in
    let stored = c.literals.ensures.live_alone c.requires.ready ∙ none in
    let peak : c.new-progress.result.peak ≡ 0 = ap (λ r. r.peak) c.new-progress.ensures
    ∙ c.literals.ensures.value ∙ ap (λ n. min n 18446744073709551615) stored in
    λ i. record {
      held = record { rule = held.rule; live = c.requires.empty i; top = c.requires.none_before i; stored = stored i; has_lost_literal = c.requires.none_lost i };
      has_stepped = (c.new-progress.ensures i).has_stepped;
      is_verified = (c.new-progress.ensures i).is_verified;
      is_ended = (c.new-progress.ensures i).is_ended;
      peak = peak i;
    }
