use Rattle.std.proofs.{Common.refl, Common.arith, lemmas.Grind.common_steps}
use Rattle.ids.proofs.IdLemmas.Pages.{counts_same}
use Rattle.ids.proofs.pages.Pages.make.Goals as goal

pub returns-in_err-lengthen-clause-counted : goal.returns-in_err-lengthen-clause-counted
returns-in_err-lengthen-clause-counted c =
    let pages = c.args.self.now in
    record {
      room = grind (arith, common_steps);
      counters = c.requires.counters;
      counts = counts_same pages.entries.items pages.live.items c.lengthen.new.row.items pages.live.items c.requires.counts c.lengthen.ensures.same (λ k. refl);
    }

pub returns-in_err-lengthen-2-clause-counted : goal.returns-in_err-lengthen-2-clause-counted
returns-in_err-lengthen-2-clause-counted c =
    let pages = c.args.self.now in
    record {
      room = grind (arith, common_steps);
      counters = grind (arith, common_steps);
      counts = counts_same pages.entries.items pages.live.items c.lengthen.new.row.items c.lengthen-2.new.row.items c.requires.counts c.lengthen.ensures.same c.lengthen-2.ensures.same;
    }

pub returns-in_err-push-clause-counted : goal.returns-in_err-push-clause-counted
returns-in_err-push-clause-counted c =
    let pages = c.args.self.now in
    record {
      room = grind (arith, common_steps);
      counters = grind (arith, common_steps);
      counts = counts_same pages.entries.items pages.live.items c.lengthen.new.row.items c.lengthen-2.new.row.items c.requires.counts c.lengthen.ensures.same c.lengthen-2.ensures.same;
    }

pub returns-clause-counted : goal.returns-clause-counted
returns-clause-counted c =
    let pages = c.args.self.now in
    record {
      room = grind (arith, common_steps, c.in_ok-lengthen.ensures.ok);
      counters = grind (arith, common_steps, c.in_ok-lengthen-2.ensures.ok);
      counts = counts_same pages.entries.items pages.live.items c.lengthen.new.row.items c.lengthen-2.new.row.items c.requires.counts c.lengthen.ensures.same c.lengthen-2.ensures.same;
    }
