use Rattle.std.proofs.{Common.arith, lemmas.Bool.cases_lt}
use Rattle.ids.proofs.IdLemmas.BySlot.{noted_next, others_stay}
use Rattle.ids.proofs.by_slot.note_far.Goals as goal

pub returns-in_default-checked_add-clause-noted : goal.returns-in_default-checked_add-clause-noted
returns-in_default-checked_add-clause-noted c = grind (arith, noted_next)

pub loop-id-preserved : goal.loop-id-preserved
loop-id-preserved c = grind (arith, noted_next, others_stay)

pub returns-clause-noted : goal.returns-clause-noted
returns-clause-noted c =
    grind (arith, cases_lt, c.loop-id.invariant.noted, c.in_default.ensures.none)
