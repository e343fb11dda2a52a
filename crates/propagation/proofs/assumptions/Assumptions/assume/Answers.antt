use Rattle.std.proofs.Common.{◌≡◌, ◌+◌, filter, [], refl, ap, ◌∙◌, rules}
use Rattle.propagation.specs.Code.Levels.{assumptions_of, first_number}
use Rattle.trail.specs.Numbers.{number_at}
use Rattle.propagation.proofs.PropagationLemmas.Levels.{notes_none, pushed_numbered, pushed_seen}
use Rattle.propagation.proofs.PropagationLemmas.Levels.{pushed_assumed, pushed_assumes}
use Rattle.propagation.proofs.assumptions.Assumptions.assume.Goals as goal

pub returns-then-make_false-clause-assumed : goal.returns-then-make_false-clause-assumed
returns-then-make_false-clause-assumed g c =
    let s = c.self.inside in let number = c.in-Some.number in let more = c.make_false.new.self in
    let number_is : number ≡ s.made + 1 = search rules in
    let none = notes_none (first_number s.levels number) number (number_at s.numbers) in
    let seen = pushed_seen s.trail more s.numbers s.numbers s.made number c.len-start.result s.levels [] _ c.self.invariant (ap (λ a. a.assumptions) c.self.view_is) c.requires.may number_is c.len-start.ensures.value
    _ refl none c.make_false.ensures.begins c.make_false.ensures.longer in
    (pushed_assumed (number_at s.numbers) more.lits s.levels number, ap (assumptions_of (number_at s.numbers) more.lits) c.pushed-self-inside.ensures ∙ seen, tt)

pub invariant_of-self-2 : goal.invariant_of-self-2
invariant_of-self-2 g c =
    let number_is : c.in-Some.number ≡ c.self.inside.made + 1 = search rules in
    simp c.pushed-self-inside.ensures
    (pushed_numbered _ _ _ _ _ _ _ _ _ _ c.self.invariant (ap (λ a. a.assumptions) c.self.view_is)
    c.requires.may number_is c.len-start.ensures.value _ c.first_number-first.ensures
    c.note_all.ensures.notes c.make_false.ensures.begins c.make_false.ensures.longer
    c.if-make_false.ensures.made.added c.note_all.ensures.known c.make_false.ensures.reserved)

pub returns-clause-assumed : goal.returns-clause-assumed
returns-clause-assumed g c =
    let s = c.self.inside in let number = c.in-Some.number in
    let lits = c.make_false.new.self.lits in let noted = c.note_all.new.numbers in
    let number_is : number ≡ s.made + 1 = search rules in
    let rest = filter (g.P.Part.keeps c.args.part.now) c.args.clause.now in
    let stood = ap (λ a. a.assumptions) c.self.view_is in
    let seen = pushed_seen s.trail c.make_false.new.self s.numbers noted s.made number
    c.len-start.result s.levels rest _ c.self.invariant stood c.requires.may number_is
    c.len-start.ensures.value _ c.first_number-first.ensures c.note_all.ensures.notes
    c.make_false.ensures.begins c.make_false.ensures.longer in
    let alike = pushed_assumes s.trail c.make_false.new.self s.numbers noted s.made number
    c.len-start.result s.levels rest _ c.self.invariant stood c.requires.may number_is
    c.len-start.ensures.value _ c.first_number-first.ensures c.note_all.ensures.notes
    c.make_false.ensures.begins c.make_false.ensures.longer c.if-make_false.ensures.made.added
    c.len-different.ensures.different in (
      pushed_assumed (number_at noted) lits s.levels number,
      ap (assumptions_of (number_at noted) lits) c.pushed-self-inside.ensures ∙ seen,
      alike,
    )
