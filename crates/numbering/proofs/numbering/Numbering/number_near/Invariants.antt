use Rattle.{numbering.specs.Names.{number_in, with_names}, std.proofs.Common.{length, map, take}}
use Rattle.{std.proofs.Common.{vec_capacity, vec_len, ◌-◌, ◌≡◌, ◌≤◌}, theory.specs.Renaming.renamed}
use Rattle.numbering.proofs.numbering.Numbering.number_near.Given as goal

abbrev pub invariant-loop-near : goal.invariant-loop-near
invariant-loop-near l = record {
  met : with_names l.self (take (vec_len l.known) l.lits) ≡ l.self;
  literals : l.known.items ≡ map (renamed (number_in l.self)) (take (vec_len l.known) l.lits);
  within : vec_len l.known ≤ length l.lits;
  room : length l.lits ≤ vec_capacity l.known;
}

abbrev pub decreases-loop-near : goal.decreases-loop-near
decreases-loop-near l = length l.lits - vec_len l.known
