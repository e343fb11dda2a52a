use Rattle.{numbering.specs.Names.{number_in, with_names}, std.proofs.Common.{length, map, take}}
use Rattle.{std.proofs.Common.{vec_capacity, vec_len, ◌≡◌, ◌≤◌}, theory.specs.Renaming.renamed}
use Rattle.numbering.proofs.numbering.Numbering.number_rest.Given as goal

abbrev pub invariant-loop-i : goal.invariant-loop-i
invariant-loop-i l = record {
  names : l.self ≡ with_names l.fn.self (take l.i l.lits);
  literals : l.numbered.items ≡ map (renamed (number_in l.self)) (take l.i l.lits);
  len : vec_len l.numbered ≡ l.i;
  room : length l.lits ≤ vec_capacity l.numbered;
}
