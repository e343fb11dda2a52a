-- A formula that was printed, as it is read.
use Rattle.std.proofs.Common.{◌≡◌, ℕ, ◌≤◌, nat_le, true, false, Some, Ok, Err, arith}
use Rattle.cnf_base.specs.{Printing.is_literal, Printing.literal_text, Literals.Literal}
use Rattle.cnf_base.specs.{declared.fault.TextFault.TheVariants.NumberTooLarge, Words.word_of}
use Rattle.cnf_base.proofs.PrintLemmas.{literal_number, literal_range, literal_word, literal_taken}
use Rattle.dimacs.specs.{declared.header.Header.Header, Formula.judged}

module _ (h : Header) (small : h.vars ≤ 268435455) where
  -- a literal of a clause, where clauses are still missing
  pub judged_literal : (k : ℕ) (l : Literal) → nat_le h.clauses k ≡ false → is_literal h.vars l ≡ true
      → judged h k (word_of (literal_text l)) ≡ Ok (Some l)
  judged_literal k l missing is =
      grind (arith, literal_range h.vars l is, literal_word h.vars l small is, literal_number l, literal_taken h.vars l small is Ok (Err NumberTooLarge))
