-- A number, after a space or nothing.
use Rattle.std.proofs.Common.{◌≡◌, ◌==◌, ap, ◌∙◌, false, rules, slice_index}
use Rattle.cnf_base.proofs.RunLemmas.{spaced-read, at_once-read}
use Rattle.cnf_base.proofs.scanner.take_number.Goals as goal

pub returns-then-ahead-eq32-clause-taken : goal.returns-then-ahead-eq32-clause-taken
returns-then-ahead-eq32-clause-taken g c number w =
    let from_one = rw c.place-from_one.ensures.value at c.place-from_one.ensures.from_one in
    let space : slice_index c.args.source.now.ahead 0 ≡ 32 = search rules in
    rw (c.skip_in_line.ensures, c.bump_in_line.ensures)
    (spaced-read _ _ _ _ from_one space w
    (c.place-place.ensures.value ∙ ap (λ s. s.place) c.bump_in_line.ensures))

pub returns-clause-taken : goal.returns-clause-taken
returns-clause-taken g c number w =
    let other : (slice_index c.args.source.now.ahead 0 == 32) ≡ false = search rules in
    rw c.skip_in_line-2.ensures (at_once-read _ _ _ _ other w c.place-place-2.ensures.value)
