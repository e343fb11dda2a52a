-- Lists of free blocks.
use Rattle.clause_memory.{proofs.CellLemmas.{IsChanged, block_same}, specs.Code.Cells.kind_at}
use Rattle.clause_memory.specs.Code.Free.{AreListed, LeadsTo, link_at, link_of}
use Rattle.clause_memory.specs.declared.kind.Kind.{Kind, TheVariants.{Free, Live}}
use Rattle.cnf_base.{proofs.SetLemmas.{has_cases, has_head, has_tail}, specs.Literals.has}
use Rattle.std.proofs.Common.{List, Option, Some, [], arith, cond, eqb, inl, inr, refl, rules, true}
use Rattle.std.proofs.{Common.{ℕ, ◌+◌, ◌<◌, ◌∷◌, ◌≡◌, ◌≤◌}, lemmas.Bool.cases_eq}

-- ---- Links

-- the blocks that a link leads to, if it is that of a block
pub first_of : (words : List ℕ) (link : ℕ) (xs : List ℕ) → LeadsTo words link xs → (s : ℕ)
    → link ≡ s + 1 → (rest : List ℕ) × (xs ≡ s ∷ rest) × LeadsTo words (link_at words s) rest
first_of words link [] leads s is = absurd (let wrong : ⊥ = omega arith in wrong)
first_of words link (t ∷ rest) leads s is = let same : t ≡ s = omega arith in grind arith

pub none_of : (words : List ℕ) (link : ℕ) (xs : List ℕ) → LeadsTo words link xs → link ≡ 0 → xs ≡ []
none_of words link [] leads is = refl
none_of words link (t ∷ rest) leads is = grind arith

-- a link is a number of a cell that is listed, and 1, or 0
pub link_low : (words : List ℕ) (link most : ℕ) (xs : List ℕ) → LeadsTo words link xs
    → ((t : ℕ) → has xs t ≡ true → t < most) → link ≤ most
link_low words link most [] leads low = omega arith
link_low words link most (t ∷ rest) leads low = grind (arith, low t (has_head t rest))

-- words in which the links of these blocks are the same
pub leads_same : (words now : List ℕ) (link : ℕ) (xs : List ℕ) → LeadsTo words link xs → ((t : ℕ) → has xs t ≡ true → link_at now t ≡ link_at words t) → LeadsTo now link xs
leads_same words now link [] leads same = leads
leads_same words now link (t ∷ rest) leads same =
    grind (arith, leads_same words now (link_at words t) rest leads.1 (λ u h. same u (has_tail t rest u h)))

-- ---- One list of them

-- the lists with another one for blocks of so many cells
abbrev pub with_list : (ℕ → List ℕ) → ℕ → List ℕ → ℕ → List ℕ
with_list list n xs k = cond (eqb k n) xs (list k)

-- what holds of the other lists and of this one
pub each_list : (P : ℕ → List ℕ → Type 0) (list : ℕ → List ℕ) (n : ℕ) (xs : List ℕ) → P n xs
    → ((k : ℕ) → (k ≡ n → ⊥) → P k (list k)) → (k : ℕ) → P k (with_list list n xs k)
each_list P list n xs here there k = grind arith

-- the heads with another one
pub record HasHead (heads now : ℕ → Option ℕ) (n link : ℕ) : Type 0 where
  pub each : (k : ℕ) → now k ≡ cond (eqb k n) (Some link) (heads k)

-- ---- Blocks that get a clause, and lose it

module _ {ks ls : List Kind} {words now : List ℕ} {heads : ℕ → Option ℕ} {s n : ℕ} (is : IsChanged ks ls words now s n) (listed : AreListed ks words heads) where
  link_same : (m t : ℕ) → has (listed.list m) t ≡ true → (t ≡ s → ⊥)
      → link_at now t ≡ link_at words t
  link_same m t there ne = grind arith

  -- a block of another list is another one
  apart_from : (k : ℕ) → (k ≡ n → ⊥) → (t : ℕ) → has (listed.list k) t ≡ true → t ≡ s → ⊥
  apart_from k ne t there e = grind arith

  -- the first block of a list gets a clause
  pub listed_without : {heads_now : ℕ → Option ℕ} (rest : List ℕ) → listed.list n ≡ s ∷ rest → LeadsTo words (link_at words s) rest → HasHead heads heads_now n (link_at words s) → kind_at ls s ≡ Live → AreListed ls now heads_now
  listed_without {heads_now} rest was leads head live = record {
    list = with_list listed.list n rest;
    leads = each_list (λ k xs. LeadsTo now (link_of (heads_now k)) xs) listed.list n rest
        (grind (arith, leads_same words now (link_at words s) rest leads, link_same, in_rest))
        (grind (arith, leads_same, link_same, apart_from));
    once = grind arith;
    free = grind (arith, in_rest, apart_from);
    block = λ k t h. block_same is.alike (grind (arith, in_rest));
    all = search rules;
  }
    where
      in_rest : (t : ℕ) → has rest t ≡ true → has (listed.list n) t ≡ true
      in_rest t h = grind (arith, has_tail)

  -- a block loses its clause, and comes to the front of its list
  pub listed_with : {heads_now : ℕ → Option ℕ} → kind_at ks s ≡ Live
      → link_at now s ≡ link_of (heads n) → HasHead heads heads_now n (s + 1) → kind_at ls s ≡ Free
      → AreListed ls now heads_now
  listed_with {heads_now} live link head free = record {
    list = with_list listed.list n (s ∷ listed.list n);
    leads = grind (arith, leads_same, link_same);
    once = grind arith;
    free = grind arith;
    block = λ k t h. block_same is.alike (grind (arith, has_cases, is.block));
    all = λ t is_free. elim (cases_eq t s) [ inl e ↦ (n, grind arith) | inr ne ↦ grind arith ];
  }

  -- words of a clause are written
  pub listed_still : kind_at ks s ≡ Live → kind_at ls s ≡ Live → AreListed ls now heads
  listed_still live live_now = record {
    list = listed.list;
    leads = grind (arith, leads_same, link_same);
    once = listed.once;
    free = grind arith;
    block = λ k t h. block_same is.alike (listed.block k t h);
    all = grind arith;
  }
