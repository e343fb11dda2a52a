-- A byte of a step.
use Rattle.std.proofs.Common.{◌≡◌, refl, rules, Ok, Err}
use Rattle.proofs.proofs.BinaryLemmas.{Between-run, Between-out, Between-none, Between-end}
use Rattle.proofs.proofs.BinaryLemmas.{Between-step, Between-fault, Between-refused}
use Rattle.proofs.specs.declared.moved.Moved.TheVariants.{Complete, To}
use Rattle.proofs.proofs.BinaryLemmas.{moves_told}
use Rattle.proofs.specs.{declared.drat_binary.stopped.Stopped.TheVariants.Binary, Binary.at_tag}
use Rattle.proofs.proofs.drat_binary.read_step.Goals as goal

pub loop-byte-init : goal.loop-byte-init
loop-byte-init g c = rw c.name.ensures (at_tag, Between-none _, refl)

pub returns-in-Ok-None-clause-step : goal.returns-in-Ok-None-clause-step
returns-in-Ok-None-clause-step g c =
    let so_far = c.loop-byte.invariant in
    let number : c.byte_no-byte_no.result ≡ c.peek.new.self.byte_no = search rules in
    let ends = rw number at (c.at_end.ensures.value so_far.0 so_far.2) in
    Between-end _ _ _ _ _ so_far.1 c.in-Ok-None.ensures.look c.at_end.result _ (search rules)
    (search rules) ends

pub loop-byte-preserved : goal.loop-byte-preserved
loop-byte-preserved g c =
    let so_far = c.loop-byte.invariant in
    let moves = moves_told _ (Ok (To c.in-Ok-To.next)) so_far.0 _ _ c.byte_no-byte_no.result
    c.peek.new.self.byte_no _ (c.move_on.ensures so_far.0 so_far.2) (search rules) (search rules) in
    let on = c.run_on.ensures moves.0 moves.2 in
    let same : c.run_on.new.step ≡ on.0 = search rules in
    let run = Between-run _ _ _ _ _ _ _ _ _ _ so_far.1 c.in-Ok-Some.ensures.look
    c.in-Ok-Some.byte (search rules) (search rules) moves.1 (search rules) c.bump.ensures on.1 in
    (moves.0, rw same run, moves.2)

pub returns-then-is_err-clause-step : goal.returns-then-is_err-clause-step
returns-then-is_err-clause-step g c =
    let so_far = c.loop-byte.invariant in
    let moves = moves_told _ (Ok (To c.in-Ok-To.next)) so_far.0 _ _ c.byte_no-byte_no.result
    c.peek.new.self.byte_no _ (c.move_on.ensures so_far.0 so_far.2) (search rules) (search rules) in
    Between-out _ _ _ _ c.run_on.new.step (Between-run _ _ _ _ _ _ _ _ _ _ so_far.1
    c.in-Ok-Some.ensures.look c.in-Ok-Some.byte (search rules) (search rules) moves.1 (search rules)
    c.bump.ensures (c.run_on.ensures moves.0 moves.2).1)

pub returns-in-Ok-Complete-clause-step : goal.returns-in-Ok-Complete-clause-step
returns-in-Ok-Complete-clause-step g c =
    let so_far = c.loop-byte.invariant in
    let moves = moves_told _ (Ok Complete) so_far.0 _ _ c.byte_no-byte_no.result
    c.peek.new.self.byte_no _ (c.move_on.ensures so_far.0 so_far.2) (search rules) (search rules) in
    rw c.bump.ensures (Between-step _ _ _ _ _ so_far.1 c.in-Ok-Some.ensures.look
    c.in-Ok-Some.byte (search rules) (search rules) _ (search rules) c.move_on.new.step moves)

pub returns-in-Err-Binary-clause-step : goal.returns-in-Err-Binary-clause-step
returns-in-Err-Binary-clause-step g c =
    let so_far = c.loop-byte.invariant in let kind = c.in-Err-Binary.kind in
    let at = c.in-Err-Binary.at in
    rw c.bump.ensures (Between-fault _ _ _ _ _ so_far.1 c.in-Ok-Some.ensures.look c.in-Ok-Some.byte (search rules) (search rules) kind at c.move_on.new.step
    (moves_told _ (Err (Binary kind at)) so_far.0 _ _ c.byte_no-byte_no.result c.peek.new.self.byte_no _ (c.move_on.ensures so_far.0 so_far.2) (search rules) (search rules)))

pub returns-in-Err-OutOfMemory-clause-step : goal.returns-in-Err-OutOfMemory-clause-step
returns-in-Err-OutOfMemory-clause-step g c =
    rw c.bump.ensures (Between-refused _ _ _ _ _ c.loop-byte.invariant.1
    c.in-Ok-Some.ensures.look c.in-Ok-Some.byte (search rules) (search rules) c.move_on.new.step)
