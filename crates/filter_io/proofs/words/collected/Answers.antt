-- All that the iterator has is collected.
use Rattle.std.{proofs.Common.refl, proofs.Common.rules, specs.Vec.Iter.into_iter_items}
use Rattle.std.proofs.lemmas.Iterator.{items_from_collect, Adapters.YieldsList-from_vec}
use Rattle.filter_io.proofs.words.collected.Goals as goal

pub returns : goal.returns
returns c =
    items_from_collect c.collect.result c.collect.ensures.ran
    (YieldsList-from_vec (into_iter_items c.args.words) refl (search rules))
