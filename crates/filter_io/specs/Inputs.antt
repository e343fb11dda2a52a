-- What is known of an input of a program.
use Rattle.cnf_base.specs.Stream.{Reader}
use Rattle.filter_io.specs.Origins.{reader_of}
use Rattle.filter_io.specs.declared.input.Input.{Input}
use Rattle.hints.specs.declared.sample.Sample.{Sample}

-- its reader
abbrev pub reader : {F S : Type 0} → Input F S → Reader
reader input = reader_of input.origin

-- the bytes that are kept of it
abbrev pub kept : {F S : Type 0} → Input F S → Sample
kept input = input.sample.value
