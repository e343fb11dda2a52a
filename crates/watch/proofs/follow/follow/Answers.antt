use Rattle.{std.proofs.Common.{[], ap, cond, eq-eqb, refl, ◌∙◌}, watch_lists.specs.Lists.list_at}
use Rattle.watch.proofs.WatchLemmas.Visits.{followed_none, hand_taken, listed_alike, none_met}
use Rattle.watch.proofs.follow.follow.Goals as goal

pub visit_list-requires : goal.visit_list-requires
visit_list-requires c = let l = c.args.l in let lists = list_at c.args.lists.now in
    let taken = c.take_out-list.new.self in let list = c.take_out-list.result.items in
    let e = c.take_out-list.ensures in record {
      can = record {
        hand = record {
          known = e.known l ∙ c.has_list.ensures.yes c.if-not-has_list.false;
          taken = e.others l ∙ ap (λ b. cond b [] (lists l)) (eq-eqb l l refl);
          listed = listed_alike _ _ _ (hand_taken _ _ _ _ e.list e.others) c.requires.can.listed;
        };
        is_false = c.requires.is_false;
        can_set = c.requires.can.can_set;
      };
    }

pub returns-then-not-has_list-clause-met : goal.returns-then-not-has_list-clause-met
returns-then-not-has_list-clause-met c =
    none_met _ _ _ (c.has_list.ensures.no c.if-not-has_list.true) c.requires.can.listed c.args.assumptions.now.trail.lits

pub returns-then-not-has_list-clause-followed : goal.returns-then-not-has_list-clause-followed
returns-then-not-has_list-clause-followed c = followed_none c.requires.can
