-- What a write took is written too.
use Rattle.std.proofs.Common.{rules, refl}
use Rattle.writers.proofs.LineLemmas.{Appends-more, AppendsPart-none, Appends-kept}
use Rattle.writers.proofs.line_out.write_whole.Goals as goal

pub loop-at-preserved : goal.loop-at-preserved
loop-at-preserved g c = record {
  within = search rules;
  part = Appends-more _ _ _ _ _ _ c.loop-at.invariant.within c.loop-at.invariant.part (search rules) (search rules);
  mark = search rules;
  same_writer = search rules;
}

pub returns-in-Ok-eq0-clause-part : goal.returns-in-Ok-eq0-clause-part
returns-in-Ok-eq0-clause-part g c =
    AppendsPart-none _ _ _ _ _ _ c.loop-at.invariant.part refl (search rules)

pub returns-in-Err-clause-part : goal.returns-in-Err-clause-part
returns-in-Err-clause-part g c =
    AppendsPart-none _ _ _ _ _ _ c.loop-at.invariant.part refl (Appends-kept _ _ (search rules))
