-- With a `-` and without.
use Rattle.std.proofs.Common.{refl, arith, ◌≡◌, ◌<◌, ◌≤◌, ◌^◌, true, rules, slice_index}
use Rattle.cnf_base.{specs.Words.is_digit, proofs.WholeLemmas.IsWholeNumber-signed}
use Rattle.cnf_base.proofs.scanner.whole.whole_number.Goals as goal

pub returns : goal.returns
returns c =
    let bytes = c.args.bytes.now in
    let minus = c.from-minus.result in
    let count = c.in_ok-count.count in
    let low : c.in_ok-count.size < 2 ^ 64 = omega arith in
    let lead : is_digit (slice_index bytes minus) ≡ true = search rules in
    let alone : slice_index bytes minus ≡ 48 → count ≤ 1 = λ zero. elim c.else-lead-eq48.branch [
      | goal.else-lead-eq48-via-then-lead-eq48+else-count-gt1 w ↦
          omega (arith, w.if-count-gt1.false)
      | goal.else-lead-eq48-via-else-lead-eq48 w ↦
          absurd (omega (arith, zero, w.if-lead-eq48.false))
    ] in
    IsWholeNumber-signed bytes _ minus count c.in_ok-count.size c.requires refl
    c.from-minus.ensures lead c.in_ok-count.ensures.digits c.in_ok-count.ensures.some low alone
