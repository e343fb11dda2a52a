use Rattle.root_literals.proofs.RootLemmas.Carried.{begun_from, not_clash}
use Rattle.root_literals.proofs.RootLemmas.Carried.{nothing_stands, roots_alone}
use Rattle.root_literals.proofs.RootLemmas.{Kept.kept_nothing, Watched.rewound_none}
use Rattle.{std.proofs.Common.{ap, arith, is_some, length, take, ◌∙◌, ◌≡◌}, tables.specs.ByKey.at}
use Rattle.watch.{proofs.WatchLemmas.State.{watch_refreshed, watch_room}, specs.Code.State.AddsRoom}
use Rattle.watch.proofs.refresh.refresh.Goals as goal

pub catch_up-requires-clause-can : goal.catch_up-requires-clause-can
catch_up-requires-clause-can c = grind arith

pub returns-in-Ok-clause-watch : goal.returns-in-Ok-clause-watch
returns-in-Ok-clause-watch c = let e = c.catch_up.ensures.followed in let p = e.propagates in
    let live = c.catch_up.new.store.live in let lists = c.catch_up.new.lists in
    let held = c.catch_up.new.assumptions in let room = c.make_room.ensures in let watch =
    watch_refreshed e c.requires.watch (grind (arith, nothing_stands)) (grind arith)
    c.in-Ok.ensures.kept (λ l h. p.noted l (c.start.ensures.noted l h)) in
    let more : AddsRoom held held c.catch_up.new.roots c.make_room.new.self = grind arith in
    watch_room more (simp room.reasons watch.noted) watch

pub returns-in-Err-clause-watch : goal.returns-in-Err-clause-watch
returns-in-Err-clause-watch c = let after = c.catch_up.new.store.live in
    let roots = c.catch_up.new.roots in let e = c.catch_up.ensures.followed in
    let p = e.propagates in let u = c.cut.ensures in let fewer = u.fewer in
    let zero : length c.cut.new.assumptions.trail.lits ≡ 0 = omega (arith, fewer) in
    watch_refreshed e c.requires.watch u.assumptions
    (λ v. u.reserved v ∙ p.extends.reserved v ∙ c.start.ensures.reserved v)
    (kept_nothing after c.cut.new.self c.cut.new.assumptions.trail.lits
    (grind arith) u.kept (rewound_none (simp zero at u.history)) (u.lits ∙ ap (λ n. take n c.catch_up.new.assumptions.trail.lits) zero)
    (let no_more = u.no_more in omega (arith, no_more, zero)))
    (λ l h. ap (λ t. is_some (at t l)) u.reasons ∙ p.noted l (c.start.ensures.noted l h))

pub catch_up-requires-clause-begun : goal.catch_up-requires-clause-begun
catch_up-requires-clause-begun c p low = grind (arith, nothing_stands, begun_from, roots_alone, not_clash)
