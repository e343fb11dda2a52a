-- A byte of the run is taken, until a separator, the end or a failed read.
use Rattle.cnf_base.proofs.RunLemmas.{InRun-failed, InRun-first, InRun-looked, InRun-separator}
use Rattle.cnf_base.proofs.StreamLemmas.{Along-bumped, Along-map, Along-then, Splits-then}
use Rattle.cnf_base.proofs.TextLemmas.{Each-append, col_along-append, listing_at-last_run}
use Rattle.std.proofs.{Common.{[], arith, rules, ◌++◌, ◌∷◌}, lemmas.Grind.common_steps}
use Rattle.cnf_base.proofs.scanner.read_run.Goals as goal

pub loop-byte-init : goal.loop-byte-init
loop-byte-init g c =
    let here = c.requires.run in
    rw c.bump.ensures
    (c.args.first ∷ [], InRun-first _ _ here.ahead here.first here.run here.text, c.begin.ensures)

pub loop-byte-preserved : goal.loop-byte-preserved
loop-byte-preserved g c =
    let so_far = c.loop-byte.invariant in
    let looked = InRun-looked _ _ _ _ so_far.1 c.peek.ensures.look (search rules) in
    let bumped = Along-bumped c.peek.new.self c.in-Ok-Some.byte (search rules) (search rules) in
    let added = c.add.ensures so_far.0 so_far.2 in
    rw c.bump_in_line.ensures (
      so_far.0 ++ c.in-Ok-Some.byte ∷ [],
      record {
        is_run = grind (arith, Each-append);
        place = grind (arith, col_along-append);
        text = Along-then _ _ _ _ _ _ looked.text bumped (λ i j k m p q. Splits-then i _ j _ k p q);
        fewer = grind (arith, common_steps);
        mark = looked.mark;
      },
      added,
    )

pub returns-then-is_separator : goal.returns-then-is_separator
returns-then-is_separator g c =
    let so_far = c.loop-byte.invariant in
    let looked = InRun-looked _ _ _ _ so_far.1 c.peek.ensures.look (search rules) in record {
      text = InRun-separator _ _ _ _ c.in-Ok-Some.byte (c.says.ensures so_far.0 so_far.2) looked
          (search rules) (search rules) (search rules);
      fewer = looked.fewer;
      failed = tt;
      mark = looked.mark;
    }

pub returns-in-Ok-None : goal.returns-in-Ok-None
returns-in-Ok-None g c =
    let so_far = c.loop-byte.invariant in
    let says = c.says-in-Ok-None.ensures so_far.0 so_far.2 in
    let looked = InRun-looked _ _ _ _ so_far.1 c.peek.ensures.look (search rules) in record {
      text = Along-map _ _ _ _ looked.text (grind (arith, listing_at-last_run));
      fewer = looked.fewer;
      failed = tt;
      mark = looked.mark;
    }

pub returns-in-Err : goal.returns-in-Err
returns-in-Err g c = record {
  text = InRun-failed _ _ _ _ c.loop-byte.invariant.1 c.peek.ensures.look (search rules) (search rules);
  fewer = search rules;
  failed = search rules;
  mark = tt;
}
