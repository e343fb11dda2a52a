-- A number begins.
use Rattle.std.proofs.Common.{[], rules}
use Rattle.proofs.proofs.drat_binary.moves.move_on.Goals as goal

pub returns-else-byte-eq0 : goal.returns-else-byte-eq0
returns-else-byte-eq0 c = λ spot at.
    let same = c.take_group.ensures [] c.new.ensures.empty in search rules
