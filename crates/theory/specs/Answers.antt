-- What a step may be answered (our own profile): it is accepted with a word, or refused with its
-- cause.
use Rattle.std.specs.Prelude.{Result, Err, ⊤}
use Rattle.theory.specs.declared.accepted.Accepted.{Accepted}
use Rattle.theory.specs.declared.refusal.Refusal.{Refusal}
use Rattle.theory.specs.declared.refusal.Refusal.TheVariants.{OutOfMemory}

-- the word with which a step is accepted, or the cause for which it is refused
abbrev pub StepAnswer : Type 0
StepAnswer = Result Accepted Refusal

-- A growth of memory may be refused in place of any other answer.
abbrev pub UnlessOutOfMemory : StepAnswer → Type 0 → Type 0
UnlessOutOfMemory (Err OutOfMemory) P = ⊤
UnlessOutOfMemory _ P = P
