use Rattle.{numbering.specs.Names.number_in, std.proofs.Common.{length, map, take, vec_capacity}}
use Rattle.{std.proofs.Common.{vec_len, ◌≡◌, ◌≤◌}, theory.specs.Renaming.renamed}
use Rattle.numbering.proofs.numbering.Numbering.find_rest.Given as goal

abbrev pub invariant-loop-i : goal.invariant-loop-i
invariant-loop-i l = record {
  literals : l.numbered.items ≡ map (renamed (number_in l.self)) (take l.i l.lits);
  len : vec_len l.numbered ≡ l.i;
  room : length l.lits ≤ vec_capacity l.numbered;
}
