use Rattle.clause_db.{proofs.StoreLemmas.Options.if_none_from, specs.Code.LiteralMarks.is_marked}
use Rattle.clause_db.proofs.StoreLemmas.{Options.if_none_from_some, Search.{same_match}}
use Rattle.clause_db.proofs.store.Store+M+Index.find.Goals.{in-None, in-Some}
use Rattle.clause_index.{proofs.IndexLemmas.Hashes.hash_same, specs.{Hashes.hash, Index.seed_of}}
use Rattle.cnf_base.proofs.SetLemmas.{same_back, same_there}
use Rattle.{std.proofs.Common.{ap, sym, true≢false, ◌∙◌}, tables.specs.ByKey.at}
use Rattle.std.specs.FinMap as maps
use Rattle.clause_db.proofs.store.Store+M+Index.find.Goals as goal

pub find_marked-found-requires : goal.find_marked-found-requires
find_marked-found-requires g c = c.self.invariant.1

pub returns-clause-none : goal.returns-clause-none
returns-clause-none g c =
    let i = c.self.inside in
    let lits = c.args.lits.now in
    let digest = c.mark_all-digest in
    elim c.match-found.branch [
      | in-Some w ↦ if_none_from_some c.match-found.result w.at.result _ w.result-is
      | in-None w ↦ if_none_from c.match-found.result _ w.result-is (λ s d is same.
          let there = ap (λ v. maps.get v.live s) c.self.view_is ∙ is in
          let alike = hash_same (seed_of i.index) d lits (same_there d lits same) (same_back d lits same) in
          let matched = same_match lits (λ l. is_marked (at digest.new.marks l)) digest.ensures.marked digest.result.len digest.ensures.len d (c.self.invariant.0.different s d there) same in
          true≢false (sym matched ∙ w.in-None.ensures.none s d there (alike ∙ ap (λ n. hash n lits) (sym c.seed.ensures) ∙ sym digest.ensures.hash)))
    ]
