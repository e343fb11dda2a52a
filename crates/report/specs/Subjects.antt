-- What a report is about.
use Rattle.report.specs.Lines.{Certificate, a_proof, a_model}
use Rattle.report.specs.declared.subject.Subject.TheVariants.{Proof, Model}
use Rattle.report.specs.declared.subject.Subject.{Subject}

abbrev pub certificate_of : Subject → Certificate
certificate_of Proof = a_proof
certificate_of Model = a_model
