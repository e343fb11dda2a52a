use Rattle.clause_index.proofs.IndexLemmas.Whole.{index_more}
use Rattle.clause_index.proofs.index.IndexIndexing.add.Goals as goal

pub returns-then-saturating_sub-self-clause-ok : goal.returns-then-saturating_sub-self-clause-ok
returns-then-saturating_sub-self-clause-ok c live old free =
    c.place_all.ensures.same _ (index_more c.reach.new.self c.put.new.self live c.args.slot c.args.lits.now c.hash_of.result
    c.put.ensures.indexed c.put.ensures.seed c.hash_of.ensures (c.reach.ensures.same live (c.make_room.ensures.same live old)) free)

pub returns-else-saturating_sub-self-clause-ok : goal.returns-else-saturating_sub-self-clause-ok
returns-else-saturating_sub-self-clause-ok c live old free =
    index_more c.reach.new.self c.put.new.self live c.args.slot c.args.lits.now c.hash_of.result
    c.put.ensures.indexed c.put.ensures.seed c.hash_of.ensures (c.reach.ensures.same live (c.make_room.ensures.same live old)) free
