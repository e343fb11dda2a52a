use Rattle.{cnf_base.proofs.WalkLemmas.is_in, std.proofs.Common.{Some, arith, ◌∙◌}}
use Rattle.tables.{proofs.ByKeyLemmas.written_more, specs.ByKey.{at, value_in}}
use Rattle.tables.proofs.by_key.ByKey.set_all.Goals as goal

pub write-requires : goal.write-requires
write-requires g c = grind (arith, is_in)

pub write-requires-in-loop-l : goal.write-requires-in-loop-l
write-requires-in-loop-l g c = grind (arith, is_in)

pub loop-l-preserved : goal.loop-l-preserved
loop-l-preserved g c = record {
  long = c.write-in-loop-l.ensures.len ∙ c.write.ensures.len ∙ c.loop-l.invariant.long;
  written = written_more (Some c.args.value) c.args.lits.now c.loop-l.l-index c.loop-l-test.true
      c.l-item.result c.l-item.is (at c.args.self.now) (value_in c.loop-l.near c.loop-l.far)
      (value_in c.write.new.near c.write.new.far) _ c.loop-l.invariant.written
      (rw c.key.ensures at c.write.ensures.values)
      (rw (c.key-in-loop-l.ensures, c.neg.ensures) at c.write-in-loop-l.ensures.values);
}
