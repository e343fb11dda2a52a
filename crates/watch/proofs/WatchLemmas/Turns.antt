-- Turns of a propagation.
use Rattle.cnf_base.proofs.{LiteralLemmas.complement-complement, SetLemmas.has_append_cases}
use Rattle.cnf_base.specs.Literals.{Clause, Literal, complement, has}
use Rattle.{propagation.specs.Assumptions.AssumptionsState, std.proofs.lemmas.Bool.cases_eq}
use Rattle.root_literals.proofs.RootLemmas.{Terms.{Clauses, ReasonOf}, Watched.front_part}
use Rattle.root_literals.{proofs.RootLemmas.Watched.met_more, specs.Code.Propagated.PropagatesTo}
use Rattle.{root_literals.specs.Watched.{IsMet, IsPart}, trail.proofs.TrailLemmas.Longer.has_begun}
use Rattle.std.proofs.Common.{List, Some, [], ap, arith, false, get_or, inl, inr, length, subst}
use Rattle.std.proofs.Common.{sym, take, take-take, true, ℕ, ◌+◌, ◌<◌, ◌∙◌, ◌∷◌, ◌≡◌, ◌≢◌, ◌≤◌}
use Rattle.{std.proofs.lemmas.List.take_more, watch_lists.specs.declared.waiting.Waiting.Waiting}
use Rattle.{watch.specs.Code.Turns.IsTurn, watch_lists.specs.Waiting.waits}
use Rattle.std.specs.FinMap as maps

one_false : (k l : Literal) → has (complement k ∷ []) (complement l) ≡ true → l ≡ k
one_false k l h = elim (cases_eq (complement k) (complement l)) [
  | inl e ↦ sym (complement-complement l) ∙ ap complement (sym e) ∙ complement-complement k
  | inr ne ↦ grind arith
]

-- the other literals before a place are those before the one in front of it
pub front_other : (trues : List Literal) (done : ℕ) {l : Literal} → done < length trues → l ≡ complement (get_or trues done 0) → (k : Literal) → k ≢ l → has (take (done + 1) trues) (complement k) ≡ true → has (take done trues) (complement k) ≡ true
front_other trues done {l} inside is k ne h = elim (cases_eq (get_or trues done 0) (complement k)) [
  | inl e ↦ absurd (ne (sym (complement-complement k) ∙ ap complement (sym e) ∙ sym is))
  | inr apart ↦
      let more = ap (λ ls. has ls (complement k)) (take_more trues done 0 inside) in
      elim (has_append_cases (take done trues) (get_or trues done 0 ∷ []) (complement k) (sym more ∙ h)) [
        | inl before ↦ before
        | inr last ↦ grind arith
      ]
]

module _ {a b : Clauses} {x y : AssumptionsState} {r s : ReasonOf} (carried : PropagatesTo a b x y r s) where
  more : IsPart x.trail.lits y.trail.lits
  more = grind (arith, has_begun)

  -- the clauses of a literal that were visited still have a true literal
  met_on : (k : Literal) → has x.trail.lits (complement k) ≡ true → ((n : ℕ) (c : Clause) → maps.get a n ≡ Some c → IsMet c k x.trail.lits) → (n : ℕ) (c : Clause) → maps.get b n ≡ Some c → IsMet c k y.trail.lits
  met_on k is_false met n c is =
      let done = carried.kept [] (complement k ∷ []) x.trail.lits (λ l h. grind arith) (λ l h. h)
      (record { each = λ m d at l h. subst (λ j. IsMet d j x.trail.lits) (sym (one_false k l h)) (met m d at) }) in
      met_more c k x.trail.lits y.trail.lits more (done.each n c is k (grind arith))

  -- so is the next one, or it waits
  pub turn_next : (done next : ℕ) (old new : Waiting) (l : Literal) → IsTurn a x.trail.lits done old → has x.trail.lits (complement l) ≡ true → next ≤ length x.trail.lits →
      ((k : Literal) → k ≢ l → waits new k ≡ waits old k) → ((k : Literal) → k ≢ l → has (take next x.trail.lits) (complement k) ≡ true → has (take done x.trail.lits) (complement k) ≡ true) →
      (waits new l ≡ false → (n : ℕ) (c : Clause) → maps.get b n ≡ Some c → IsMet c l y.trail.lits) → IsTurn b y.trail.lits next new
  turn_next done next old new l turn is_false inside others front met = record {
    inside = let longer = carried.extends.longer in omega (arith, inside, longer);
    are_false = λ k waits_k. more (complement k) (elim (cases_eq k l) [
      | inl e ↦ ap (λ j. has x.trail.lits (complement j)) e ∙ is_false
      | inr ne ↦ turn.are_false k (sym (others k ne) ∙ waits_k)
    ]);
    met = λ k h free n c is. elim (cases_eq k l) [
      | inl e ↦ subst (λ j. IsMet c j y.trail.lits) (sym e) (met (ap (waits new) (sym e) ∙ free) n c is)
      | inr ne ↦
          let begun : has (take next x.trail.lits) (complement k) ≡ true = grind (arith, take-take) in
          let visited = front k ne begun in
          met_on k (front_part done x.trail.lits (complement k) visited) (turn.met k visited (sym (others k ne) ∙ free)) n c is
    ];
  }
