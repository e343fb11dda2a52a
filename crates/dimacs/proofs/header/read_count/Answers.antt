-- A number.
use Rattle.std.proofs.Common.{rules, ◌≡◌, refl, Ok, Err}
use Rattle.dimacs.specs.Formula.{next_word, count_of}
use Rattle.dimacs.proofs.HeaderLemmas.{Part-map, counted_word, before_count}
use Rattle.dimacs.proofs.header.read_count.Goals as goal

pub returns-in_err-place-clause-text : goal.returns-in_err-place-clause-text
returns-in_err-place-clause-text g c =
    let refused : c.from_residual.result ≡ Err c.in_err-place.field-0.0 = search rules in
    rw refused (Part-map _ _ before_count next_word (λ l. Err c.in_err-place.field-0.0)
    (counted_word c.args.limit) _ c.in_err-place.ensures.text (λ l. refl))

pub returns-clause-text : goal.returns-clause-text
returns-clause-text g c =
    let place = c.in_ok-place.place in let word = c.in_ok-place.number in
    let is : c.count_of.result ≡ count_of c.args.limit place word = search rules in
    rw is (Part-map _ _ before_count next_word (λ l. Ok (place, word, l))
    (counted_word c.args.limit) _ c.in_ok-place.ensures.text (λ l. refl))
