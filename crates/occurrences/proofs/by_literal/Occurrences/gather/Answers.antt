use Rattle.occurrences.proofs.EntryLemmas.{alike_cleaned, gathered, put_alike, put_beyond, put_over}
use Rattle.occurrences.specs.{Code.Known.AreAlike, Entries.counts, Occurrences.occurs}
use Rattle.std.proofs.{Common.{ap, arith, filter, subst, sym, ◌<◌, ◌∙◌}, lemmas.Result.on_ok_weaker}
use Rattle.tables.specs.Lists.{list_at}
use Rattle.occurrences.proofs.by_literal.Occurrences.gather.Goals as goal

pub invariant_of-self : goal.invariant_of-self
invariant_of-self c =
    let old = c.args.self.now in
    let key = c.key-key.result in
    let list = c.clean.new.list.items in
    let took = c.take_out-list.ensures.others in
    let put = c.put_back.ensures.lists in
    let low : key < 4294967296 = omega arith in
    let cleaned = subst (AreAlike old.births (list_at old.lists key)) (sym (c.clean.ensures.items ∙ ap (λ xs. filter (counts old.births) xs) c.take_out-list.ensures.list)) (alike_cleaned old.births (list_at old.lists key)) in
    record {
      low = put_beyond (list_at old.lists) (list_at c.put_back.new.self) key 4294967296 list low (put_over (list_at old.lists) (list_at c.take_out-list.new.self) (list_at c.put_back.new.self) key list took put) old.low;
      known = λ l. (put_alike old.births (list_at old.lists) (list_at c.take_out-list.new.self) (list_at c.put_back.new.self) key list took put cleaned l).known (old.known l);
    }

pub returns-clause-occurs : goal.returns-clause-occurs
unfolding occurs
returns-clause-occurs c l s =
    let old = c.args.self.now in
    let key = c.key-key.result in
    let cleaned = subst (AreAlike old.births (list_at old.lists key)) (sym (c.clean.ensures.items ∙ ap (λ xs. filter (counts old.births) xs) c.take_out-list.ensures.list)) (alike_cleaned old.births (list_at old.lists key)) in
    (put_alike old.births (list_at old.lists) (list_at c.take_out-list.new.self) (list_at c.put_back.new.self) key c.clean.new.list.items c.take_out-list.ensures.others c.put_back.ensures.lists cleaned l).occurs s

pub returns-clause-slots : goal.returns-clause-slots
unfolding occurs
returns-clause-slots c = on_ok_weaker c.push_slots-pushed.result (λ pushed s.
    let old = c.args.self.now in
    let read = c.as_slice.ensures.value ∙ c.clean.ensures.items ∙ ap (λ xs. filter (counts old.births) xs) (c.take_out-list.ensures.list ∙ ap (list_at old.lists) c.key-key.ensures) in
    gathered old.births (list_at old.lists c.args.l) c.as_slice.result.now read c.args.into.now.items c.push_slots-pushed.new.into.items pushed s) c.push_slots-pushed.ensures
