use Rattle.occurrences.proofs.EntryLemmas.{forgotten, none_never, noted_known, noted_never}
use Rattle.occurrences.proofs.EntryLemmas.{noted_others, rid_known, rid_lists, rid_of}
use Rattle.occurrences.proofs.{EntryLemmas.written_others, TestLemmas.all_weaker}
use Rattle.occurrences.specs.{Code.Known.is_known, Entries.is_of, Occurrences.occurs}
use Rattle.std.{proofs.Common.{ap, arith, subst, sym, true, ◌∙◌, ◌≡◌}, specs.List.list_all}
use Rattle.{std.specs.List.list_any, tables.specs.Lists.list_at}
use Rattle.occurrences.proofs.by_literal.Occurrences.forget.Goals as goal

pub invariant_of-self : goal.invariant_of-self
invariant_of-self c =
    let old = c.args.self.now in
    record {
      low = old.low;
      known = λ l. all_weaker (is_known old.births) (is_known c.set.new.self)
          (noted_known old.births c.set.new.self c.args.slot c.in-Some.births c.in-Some-checked_add.more (sym c.get.ensures ∙ c.in-Some.is) c.in-Some-checked_add.ensures.1 c.set.ensures)
          (list_at old.lists l) (old.known l);
    }

pub invariant_of-self-in-None : goal.invariant_of-self-in-None
invariant_of-self-in-None c =
    let old = c.args.self.now in
    let left = rid_lists (list_at old.lists) (list_at c.rid_all.new.lists) c.args.slot 4294967296 c.rid_all.ensures.lists c.rid_all.ensures.beyond old.low in
    record {
      low = λ l past. c.rid_all.ensures.beyond l past ∙ old.low l past;
      known = λ l. subst (λ xs. list_all (is_known c.set-in-None.new.self) xs ≡ true) (sym (left l))
          (rid_known old.births c.set-in-None.new.self c.args.slot (written_others old.births c.set-in-None.new.self c.args.slot 0 c.set-in-None.ensures) (list_at old.lists l) (old.known l));
    }

pub returns-in-Some-checked_add : goal.returns-in-Some-checked_add
unfolding occurs
returns-in-Some-checked_add c l s =
    let old = c.args.self.now in
    let was = sym c.get.ensures ∙ c.in-Some.is in
    let more = c.in-Some-checked_add.ensures.1 in
    forgotten old.births c.set.new.self c.args.slot
    (noted_others old.births c.set.new.self c.args.slot c.in-Some.births c.in-Some-checked_add.more was more c.set.ensures)
    (noted_never old.births c.set.new.self c.args.slot c.in-Some.births c.in-Some-checked_add.more was more c.set.ensures)
    (list_at old.lists l) (old.known l) s

pub returns-in-None : goal.returns-in-None
unfolding occurs
returns-in-None c l s =
    let old = c.args.self.now in
    let left = rid_lists (list_at old.lists) (list_at c.rid_all.new.lists) c.args.slot 4294967296 c.rid_all.ensures.lists c.rid_all.ensures.beyond old.low in
    ap (list_any (is_of c.set-in-None.new.self s)) (left l)
    ∙ rid_of old.births c.set-in-None.new.self c.args.slot (written_others old.births c.set-in-None.new.self c.args.slot 0 c.set-in-None.ensures) (list_at old.lists l) s

pub returns-in_default : goal.returns-in_default
unfolding occurs
returns-in_default c l s = grind (arith, forgotten, none_never)
