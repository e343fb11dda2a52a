-- The digits are shifted to the top, and count as if zeros stood before them.
use Rattle.cnf_base.{proofs.EightLemmas.{eight_is, front}, specs.Code.Eight.{AreEight, decimal}}
use Rattle.{cnf_base.specs.Code.Eight.packed, std.proofs.Common.{List, ap, bit_xor, slice_index}}
use Rattle.std.proofs.Common.{subst, sym, take, w64, ℕ, ◌%◌, ◌*◌, ◌+◌, ◌-◌, ◌<◌, ◌^◌, ◌∙◌, ◌≡◌}
use Rattle.std.specs.Int.{from_le_bytes}
use Rattle.cnf_base.proofs.scanner.eight.front_digits.Goals as goal

pub returns : goal.returns
returns c some digit =
    let bytes = c.args.bytes.now in
    let low : (i : ℕ) → slice_index bytes i < 256 = λ i. (c.type_inv.bytes i).fits in
    let first : c.in-Some.eight.now ≡ take 8 bytes = c.in-Some.ensures.cases.same in
    let word = bit_xor c.from_le_bytes-packed.result 3472328296227680304 in
    let says = subst (λ m. (ds : List ℕ) → AreEight 10 ds
    → ((word + (2 ^ 64 - 29 * m)) % 2 ^ 64 * 2 ^ (64 - 8 * c.digit_count-count.result)) % 2
    ^ 64 ≡ packed ds → c.value_of.result ≡ decimal ds) c.from.ensures c.value_of.ensures in
    front bytes c.requires.long low c.args.is_negative c.requires.sign c.from_le_bytes-packed.result
    c.digit_count-count.result c.value_of.result
    (c.from_le_bytes-packed.ensures
    ∙ ap (from_le_bytes w64) (first ∙ sym (eight_is bytes c.requires.long)))
    c.digit_count-count.ensures.count some says digit
