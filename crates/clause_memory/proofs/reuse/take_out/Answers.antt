use Rattle.clause_memory.proofs.CellLemmas.{wiped_before, wiped_behind, wiped_inside, wiped_len}
use Rattle.clause_memory.proofs.MemoryLemmas.{IsTakenOut, taken_out_blocks, taken_out_clauses}
use Rattle.clause_memory.proofs.{MemoryLemmas.taken_out_memory, reuse.take_out.Goals.After-set}
use Rattle.{std.proofs.Common.arith, tables.specs.ByKey.at}
use Rattle.clause_memory.proofs.reuse.take_out.Goals as goal

taken : (c : After-set) → IsTakenOut c.args.kinds.now.items c.args.words.now.items c.write_link.new.words.items (at c.args.heads.now) (at c.set.new.self) c.args.slot c.cells-count.result
taken c = grind (arith, wiped_len, wiped_inside, wiped_before, wiped_behind)

pub returns-clause-memory : goal.returns-clause-memory
returns-clause-memory c = taken_out_memory (taken (goal.at.returns-clause-memory c).After-set)

pub returns-clause-clauses : goal.returns-clause-clauses
returns-clause-clauses c = taken_out_clauses (taken (goal.at.returns-clause-clauses c).After-set)

pub returns-clause-blocks : goal.returns-clause-blocks
returns-clause-blocks c = taken_out_blocks (taken (goal.at.returns-clause-blocks c).After-set)
