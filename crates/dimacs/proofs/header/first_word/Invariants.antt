-- Only blank lines came.
use Rattle.cnf_base.specs.{Stream.{Along, most_to_come, tells_failure}, Text.listing_at}
use Rattle.{dimacs.specs.Formula.skip_blank, std.proofs.Common.{◌≡◌, ◌≤◌}}
use Rattle.dimacs.proofs.header.first_word.Given as goal

abbrev pub invariant-loop-place : goal.invariant-loop-place
invariant-loop-place g l = record {
  text : Along l.fn.scanner l.scanner (λ i j.
      skip_blank (listing_at l.fn.scanner.place i) ≡ skip_blank (listing_at l.scanner.place j));
  fewer : most_to_come l.scanner ≤ most_to_come l.fn.scanner;
  mark : tells_failure l.scanner.reader ≡ tells_failure l.fn.scanner.reader;
}

abbrev pub decreases-loop-place : goal.decreases-loop-place
decreases-loop-place g l = most_to_come l.scanner
