use Rattle.clause_memory.proofs.{BlockLemmas.block_is, CellLemmas.block_inside}
use Rattle.clause_memory.proofs.MemoryLemmas.{IsPutIn, first_block, first_low, link_fits}
use Rattle.clause_memory.proofs.MemoryLemmas.{put_in_blocks, put_in_clauses, put_in_memory}
use Rattle.clause_memory.proofs.{MemoryLemmas.was_none, reuse.put_in.Goals.After-write_clause}
use Rattle.{std.proofs.Common.{arith, rules}, tables.specs.ByKey.at}
use Rattle.clause_memory.proofs.reuse.put_in.Goals as goal

put : (c : After-write_clause)
    → IsPutIn c.args.kinds.now.items c.args.words.now.items c.write_clause.new.words.items
    (at c.args.heads.now) (at c.set.new.self) c.args.slot c.args.lits.now
put c = grind arith

pub link-requires : goal.link-requires
link-requires c = grind (arith, first_low c.requires.memory)

pub overflow_cast-link : goal.overflow_cast-link
overflow_cast-link c = grind (arith, link_fits c.requires.memory)

pub index_mut-requires : goal.index_mut-requires
index_mut-requires c =
    grind (arith, block_inside (first_block c.requires.memory _ c.args.slot c.requires.first))

pub write_clause-requires-clause-inside : goal.write_clause-requires-clause-inside
write_clause-requires-clause-inside c = grind (arith, first_low c.requires.memory)

pub returns-clause-memory : goal.returns-clause-memory
returns-clause-memory c = put_in_memory (put (goal.at.returns-clause-memory c).After-write_clause)

pub returns-clause-free : goal.returns-clause-free
returns-clause-free c = grind (arith, was_none, put)

pub returns-clause-block : goal.returns-clause-block
returns-clause-block c = search (rules, block_is, first_block)

pub returns-clause-blocks : goal.returns-clause-blocks
returns-clause-blocks c = put_in_blocks (put (goal.at.returns-clause-blocks c).After-write_clause)

pub returns-clause-clauses : goal.returns-clause-clauses
returns-clause-clauses c = grind (arith, put_in_clauses, put)
