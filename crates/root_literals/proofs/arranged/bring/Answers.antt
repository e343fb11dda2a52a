use Rattle.{cnf_base.proofs.MapLemmas.insert_other, std.proofs.Common.{ap, arith, sym, ◌∙◌}}
use Rattle.root_literals.proofs.RootLemmas.Arranged.{brought}
use Rattle.std.specs.FinMap as maps
use Rattle.root_literals.proofs.arranged.bring.Goals as goal

pub returns-in-Some-clause-others : goal.returns-in-Some-clause-others
returns-in-Some-clause-others c s ne =
    ap (λ m. maps.get m s) (c.swap.ensures.live c.clause.result.now (sym c.clause.ensures.clause)) ∙ insert_other _ _ _ _ ne

pub returns-in-Some-clause-brought : goal.returns-in-Some-clause-brought
returns-in-Some-clause-brought c = let here = sym c.clause.ensures.clause in
    let e = c.in-Some.ensures.found in
    brought c.args.store.now.live c.args.slot c.args.trail.now.lits c.args.place c.clause.result.now here c.swap.new.self.live c.in-Some.found e.0 e.1 e.2 (grind arith)
