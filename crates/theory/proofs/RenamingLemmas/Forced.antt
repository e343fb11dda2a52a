-- What is forced under other names, and the clauses that are redundant.
use Rattle.cnf_base.specs.Literals.{Clause, Literal, complement, complements, has, without}
use Rattle.std.proofs.Common.{Bool, List, Some, [], ap, arith, inl, inr, map, refl, rules, subst}
use Rattle.std.proofs.{Common.{sym, true, ℕ, ◌∙◌, ◌∷◌, ◌≡◌}, lemmas.List.map-append}
use Rattle.theory.proofs.RenamingLemmas.Clauses.{AreAmong, GoesTo, Renames, has_is, has_mapped}
use Rattle.theory.proofs.RenamingLemmas.Clauses.{mapped_among, mapped_has, open_mapped, reversed}
use Rattle.theory.{proofs.RenamingLemmas.Clauses.without_mapped, specs.Propagation.{Clash, Forced}}
use Rattle.theory.specs.Propagation.{HasPr, HasRat, HasRup, IsClosed, IsRootReason, Live, by_both}
use Rattle.theory.specs.Propagation.{by_empty, open_literals}

-- each clause of the one has its image in the other
abbrev pub HasImages : (Literal → Literal) → Live → Live → Type 0
HasImages f live other = (k : ℕ) (c : Clause) → live k ≡ Some c → other k ≡ Some (map f c)

module _ (f : Literal → Literal) (commutes : (l : Literal) → complement (f l) ≡ f (complement l))
    (live other : Live) (images : HasImages f live other) where
  closed_image : (passes : Literal → Bool) → IsClosed other passes
      → IsClosed live (λ l. passes (f l))
  closed_image passes closed = record {
    unit = λ k c at m member others.
        closed.unit k (map f c) (images k c at) (f m) (has_mapped f c m member) (λ x inside ne.
        let w = mapped_has f c x inside in
        rw (← w.2, commutes) (others w.0 w.1 (λ e. ne (sym w.2 ∙ ap f e))));
  }

  pub forced_image : (assumed : List Literal) (l : Literal) → Forced live assumed l
      → Forced other (map f assumed) (f l)
  forced_image assumed l forced = record {
    in_each = λ passes closed start. forced.in_each (λ l. passes (f l)) (closed_image passes closed)
        (λ a member. start (f a) (has_mapped f assumed a member));
  }

  pub clash_image : (assumed : List Literal) → Clash live assumed → Clash other (map f assumed)
  clash_image assumed (by_empty k at) = by_empty k (images k [] at)
  clash_image assumed (by_both l x y) =
      by_both (f l) (forced_image assumed l x) (search (rules, forced_image))

  complements_image : (c : Clause) → map f (complements c) ≡ complements (map f c)
  complements_image [] = refl
  complements_image (k ∷ c) = λ i. sym (commutes k) i ∷ complements_image c i

  pub rup_image : (c : Clause) → HasRup live c → HasRup other (map f c)
  rup_image c clash = subst (Clash other) (complements_image c) (clash_image (complements c) clash)

-- Live clauses under other names: each has its image, and is the image of that one.
pub record Carries (there back : Literal → Literal) (among : Literal → Type 0)
    (live other : Live) : Type 0 where
  pub renames : Renames there back among
  pub images : HasImages there live other
  pub images_back : HasImages back other live
  pub within : (k : ℕ) (c : Clause) → live k ≡ Some c → AreAmong among c

module _ (there back : Literal → Literal) (among : Literal → Type 0) (live other : Live)
    (s : Carries there back among live other) where
  -- a clause of the other is an image
  pub is_image : (k : ℕ) (d : Clause) → other k ≡ Some d → d ≡ map there (map back d)
  is_image k d at = search rules

  pub carries_back : ((l : Literal) → complement (back l) ≡ back (complement l))
      → Carries back there (GoesTo there among) other live
  carries_back commutes = record {
    renames = reversed there back among s.renames commutes;
    images = s.images_back;
    images_back = s.images;
    within = λ k d at. subst (AreAmong _) (sym (is_image k d at)) (search (rules, mapped_among));
  }

  pub rup_of : (c : Clause) → HasRup live c → HasRup other (map there c)
  rup_of c = rup_image there s.renames.commutes live other s.images c

  pub rat_image : (c : Clause) (pivot : Literal) → among pivot → HasRat live c pivot
      → HasRat other (map there c) (there pivot)
  rat_image c pivot a rat = record {
    holds_pivot = has_mapped there c pivot rat.holds_pivot;
    candidates = λ k d at member.
        let at_back = s.images_back k d at in let within = s.within k _ at_back in
        let opposite = s.renames.opposite pivot a in let image = is_image k d at in
        let name = s.renames.commutes pivot in
        let inside : has (map back d) (complement pivot) ≡ true =
        cc (has_is _ _ _ s.renames _ within _ opposite) in
        let left = map-append there c (without (map back d) (complement pivot)) in
        let same = without_mapped _ _ _ s.renames _ within _ opposite in
        rw (image, name, same, ← left) (rup_of _ (rat.candidates k _ at_back inside));
  }

  pub pr_image : (c : Clause) (witness : List Literal) → AreAmong among witness
      → HasPr live c witness → HasPr other (map there c) (map there witness)
  pr_image c witness w_within pr = record {
    consistent = grind (arith, mapped_has, has_is);
    meets = let (l, member, met) = pr.meets in
        (there l, has_mapped there c l member, has_mapped there witness l met);
    others = λ k d at.
        let e = map back d in let at_back = s.images_back k d at in let image = is_image k d at in
        elim (pr.others k e at_back) [
          | inl m ↦ grind (arith, has_mapped)
          | inr rup ↦
              let same = open_mapped _ _ _ s.renames witness e w_within (s.within k e at_back) in
              let left = map-append there c (open_literals witness e) in
              inr (rw (image, same, ← left) (rup_of _ rup))
        ];
  }

  pub reason_image : (c : Clause) → IsRootReason live c → IsRootReason other (map there c)
  reason_image c r = record {
    literal = there r.literal;
    member = has_mapped there c r.literal r.member;
    forced = forced_image there s.renames.commutes live other s.images [] r.literal r.forced;
    others = λ x h ne.
        let w = mapped_has there c x h in rw (← w.2, s.renames.commutes)
        (forced_image there s.renames.commutes live other s.images [] _ (search rules));
  }
