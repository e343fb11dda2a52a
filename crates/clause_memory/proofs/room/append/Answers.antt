use Rattle.clause_memory.proofs.{BlockLemmas.block_past, CountLemmas.{none_left, one_more_block}}
use Rattle.clause_memory.proofs.RoomLemmas.{IsAppended, appended_block, appended_clauses}
use Rattle.clause_memory.proofs.RoomLemmas.{appended_free, appended_memory, appended_other_blocks}
use Rattle.clause_memory.proofs.RoomLemmas.{memory_widened, none_free, now_kinds, now_words}
use Rattle.clause_memory.{proofs.room.append.Goals.After-append_clause, specs.Blocks.cells_for}
use Rattle.{std.proofs.Common.{arith, length, rules, ◌-◌, ◌≡◌}, tables.specs.ByKey.at}
use Rattle.clause_memory.proofs.room.append.Goals as goal

appended : (c : After-append_clause) → IsAppended c.args.kinds.now.items c.args.words.now.items (at c.reserve.new.self) c.args.lits.now (cells_for (length c.args.lits.now) - 1)
appended c = grind (arith, memory_widened)

kinds_are : (c : After-append_clause) → c.append_kinds.new.kinds.items ≡ now_kinds (appended c)
kinds_are c = grind arith

words_are : (c : After-append_clause) → c.append_clause.new.words.items ≡ now_words (appended c)
words_are c = grind arith

pub returns-clause-memory : goal.returns-clause-memory
returns-clause-memory c = search (rules, arith, appended_memory, appended, kinds_are, words_are)

pub returns-clause-placed : goal.returns-clause-placed
returns-clause-placed c = let a = appended (goal.at.returns-clause-placed c).After-append_clause in
    record {
      free = grind (arith, appended_free a);
      clauses = grind (arith, appended_clauses a);
      block = grind (arith, appended_block a);
      other_blocks = λ s ne. grind (arith, appended_other_blocks a s);
    }

pub returns-clause-few_blocks : goal.returns-clause-few_blocks
returns-clause-few_blocks c =
    let a = appended (goal.at.returns-clause-few_blocks c).After-append_clause in
    one_more_block _ _ _ _ _ (grind (arith, none_left, none_free)) (block_past _) (grind (arith, appended_block a)) (grind (arith, appended_other_blocks a))
