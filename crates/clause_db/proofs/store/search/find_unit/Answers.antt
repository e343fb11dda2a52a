use Rattle.clause_db.{proofs.StoreLemmas.Options.if_none_then, specs.Code.Matches.is_unit_in}
use Rattle.clause_index.{proofs.IndexLemmas.Hashes.{mixed_none, mixed_push}, specs.Index.seed_of}
use Rattle.{clause_index.specs.Hashes.{hash, mix, mixed_sum}, std.proofs.lemmas.Bool.false≢true}
use Rattle.{cnf_base.specs.Literals.Literal, std.proofs.Common.{◌<◌, ◌==◌, ◌^◌, ◌∙◌, ◌∷◌, ◌≡◌}}
use Rattle.std.proofs.Common.{[], ap, arith, eq-eqb, ne_eqb, not, refl, sym, ℕ, ◌%◌, ◌&&◌, ◌+◌, ◌/◌}
use Rattle.clause_db.proofs.store.search.find_unit.Goals as goal

-- the hash of a clause of one literal
hash_alone : (seed : ℕ) (l : Literal) → mix seed l < 2 ^ 64
    → hash seed (l ∷ []) ≡ mix seed l / 2 ^ 32
unfolding hash
hash_alone seed l low =
    let first = mixed_none seed in
    let sum : mixed_sum seed (l ∷ []) ≡ mix seed l = mixed_push seed [] l refl
    ∙ ap (λ n. (n + mix seed l) % 2 ^ 64) first ∙ omega (arith, low) in
    ap (λ n. n / 2 ^ 32) sum

pub returns-clause-none : goal.returns-clause-none
returns-clause-none g c =
    let l = c.args.l in
    let slot = c.args.slot in
    let seed = seed_of c.args.index.now in
    let mixed_is = c.mixed.ensures ∙ ap (λ s. mix s l) c.seed.ensures in
    let hash_is : hash seed (l ∷ []) ≡ c.upper_half.result = grind (arith, hash_alone) in
    if_none_then c.find.result c.find.ensures.none (λ none s other is.
    false≢true (sym (none (g.M.Memory.seen c.args.memory.now).live s (l ∷ []) c.requires is hash_is)
    ∙ ap (λ o. not (s == slot) && is_unit_in l o) is ∙ ap (λ b. not b && (l == l)) (ne_eqb s slot other) ∙ eq-eqb l l refl))
