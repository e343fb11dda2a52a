-- A number goes on, or it is whole.
use Rattle.proofs.{proofs.WholeLemmas.number_kept, specs.Binary.{groups_value, in_number}}
use Rattle.std.proofs.Common.{[], rules, ◌++◌, ◌∷◌}
use Rattle.proofs.proofs.drat_binary.moves.take_group.Goals as goal

pub returns-then-byte-ge128 : goal.returns-then-byte-ge128
returns-then-byte-ge128 c = λ bytes k.
    let more = c.with-groups.ensures.more bytes k in let all = bytes ++ c.args.byte ∷ [] in
    (in_number c.args.groups.first all, search rules, (all, search rules, more))

pub returns : goal.returns
returns c = λ bytes k.
    let kept = c.with-groups.ensures.more bytes k in
    let same = number_kept c.args.step.now c.args.groups.first c.args.byte
    (groups_value (bytes ++ c.args.byte ∷ [])) in search rules
