-- What comes before a token is skipped.
use Rattle.cnf_base.proofs.RunLemmas.{Stands-c, Stands-cut_word, Stands-looked, Stands-separator}
use Rattle.cnf_base.proofs.RunLemmas.{Stands-start, Stands-word, one_byte-read, whole_number-read}
use Rattle.cnf_base.proofs.StreamLemmas.{Along-bumped, Along-look, Along-then}
use Rattle.cnf_base.proofs.{TextLemmas.listing_at-feed, TokenLemmas.failed}
use Rattle.std.proofs.Common.{arith, refl, rules, slice_index, sym, true, ◌==◌, ◌∙◌, ◌≡◌}
use Rattle.std.proofs.lemmas.{Bool.{and_parts, Decides.nat_tests}, Grind.common_steps}
use Rattle.cnf_base.specs.declared.word.Word.TheVariants as words
use Rattle.cnf_base.proofs.scanner.any_token.Goals as goal

pub loop-byte-init : goal.loop-byte-init
loop-byte-init g c = Stands-start _

pub returns-in-Ok-None-clause-tokens : goal.returns-in-Ok-None-clause-tokens
returns-in-Ok-None-clause-tokens g c =
    Along-then _ _ _ _ _ _ c.loop-byte.invariant.text (Along-look _ _ c.peek.ensures.look)
    (grind (arith, common_steps))

pub returns-in-Err-clause-tokens : goal.returns-in-Err-clause-tokens
returns-in-Err-clause-tokens g c =
    Along-then _ _ _ _ _ _ c.loop-byte.invariant.text (Along-look _ _ c.peek.ensures.look)
    (grind (arith, common_steps))

pub returns-then-byte-eq10-clause-tokens : goal.returns-then-byte-eq10-clause-tokens
returns-then-byte-eq10-clause-tokens g c =
    let now = Stands-looked _ _ _ c.loop-byte.invariant c.peek.ensures.look (search rules) in
    let bumped = Along-bumped c.peek.new.self c.in-Ok-Some.byte (search rules) (search rules) in
    rw (c.bump.ensures, c.place-place.ensures.value)
    (Along-then _ _ _ _ _ _ now.text bumped (grind (arith, nat_tests, listing_at-feed)))

pub loop-byte-preserved-else-byte-eq10 : goal.loop-byte-preserved-else-byte-eq10
loop-byte-preserved-else-byte-eq10 g c =
    let from_one = rw c.place-place.ensures.value at c.place-place.ensures.from_one in
    rw c.bump.ensures
    (Stands-separator _ c.peek.new.self c.in-Ok-Some.byte (search (rules, Stands-looked)) from_one
    (search rules) (search rules) (search rules) (grind (arith, nat_tests)))

pub returns-then-is_err-clause-tokens : goal.returns-then-is_err-clause-tokens
returns-then-is_err-clause-tokens g c =
    let both = and_parts _ _ (sym c.begins_comment.ensures ∙ c.if-begins_comment.true) in
    let start : (c.peek.new.self.place.col == 1) ≡ true = rw (← c.place.ensures.value) both.0 in
    let text = rw c.bump_in_line.ensures at c.skip_comment.ensures.text in
    let first = Stands-c _ c.peek.new.self c.in-Ok-Some.byte (search (rules, Stands-looked))
    (search rules) (search rules) both.1 start in
    Along-then _ _ _ _ _ _ first text (grind (arith, common_steps))

pub loop-byte-preserved : goal.loop-byte-preserved
loop-byte-preserved g c =
    let both = and_parts _ _ (sym c.begins_comment.ensures ∙ c.if-begins_comment.true) in
    let start : (c.peek.new.self.place.col == 1) ≡ true = rw (← c.place.ensures.value) both.0 in
    let text = rw c.bump_in_line.ensures at c.skip_comment.ensures.text in
    let first = Stands-c _ c.peek.new.self c.in-Ok-Some.byte (search (rules, Stands-looked))
    (search rules) (search rules) both.1 start in
    record {
      text = Along-then _ _ _ _ _ _ first text (λ i j k m p q. p ∙ q.0);
      fewer = grind (arith, common_steps);
      mark = search rules;
    }

pub returns-in-Some-clause-tokens : goal.returns-in-Some-clause-tokens
returns-in-Some-clause-tokens g c =
    let number = rw c.ahead-else-begins_comment.ensures at c.in-Some.ensures in
    rw c.skip_in_line.ensures (Stands-word _ _ _ _ _ (search (rules, Stands-looked))
    c.place-place-else-begins_comment.ensures.value
    (whole_number-read _ c.in-Ok-Some.byte _ _ (search rules) (search rules) (search rules)
    number))

pub returns-else-begins_comment-clause-tokens : goal.returns-else-begins_comment-clause-tokens
returns-else-begins_comment-clause-tokens g c =
    Stands-word _ _ _ _ c.in_ok-read_word-in-Ok-Some.field-0 (search (rules, Stands-looked))
    c.place-place-else-begins_comment.ensures.value c.in_ok-read_word-in-Ok-Some.ensures.text

pub returns-in_err-read_word-in-Ok-Some-clause-tokens
    : goal.returns-in_err-read_word-in-Ok-Some-clause-tokens
returns-in_err-read_word-in-Ok-Some-clause-tokens g c =
    let text = c.in_err-read_word-in-Ok-Some.ensures.text in
    failed _ _ _ c.from_residual.ensures.0
    (Stands-cut_word _ _ _ (search (rules, Stands-looked)) text)

pub returns-then-separator_follows-clause-tokens
    : goal.returns-then-separator_follows-clause-tokens
returns-then-separator_follows-clause-tokens g c =
    let follows = rw c.ahead.ensures at c.separator_follows.ensures in
    let first : 100 ≡ slice_index c.peek.new.self.ahead 0 = search rules in
    rw c.bump_in_line-then-separator_follows.ensures
    (Stands-word _ _ _ _ words.D (search (rules, Stands-looked))
    c.place-place-else-begins_comment.ensures.value
    (one_byte-read _ 100 words.D first refl refl (search rules) (follows.long (search rules))
    (follows.separator (search rules))))
