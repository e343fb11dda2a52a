-- The parts in turn.
use Rattle.dimacs.specs.Formula.{skip_blank, is_p, is_cnf, fixed, count, line_end}
use Rattle.dimacs.proofs.HeaderLemmas.{Heads-start, Heads-part, Heads-fault, after_p, after_cnf}
use Rattle.dimacs.proofs.HeaderLemmas.{Heads-p, Heads-cnf, Heads-vars, Heads-clauses}
use Rattle.dimacs.proofs.HeaderLemmas.{after_vars, after_clauses, before_count, done}
use Rattle.dimacs.proofs.header.read_header.Goals as goal

pub returns-in-Err-clause-header : goal.returns-in-Err-clause-header
returns-in-Err-clause-header g c =
    Heads-fault _ _ _ (fixed is_p) skip_blank after_p (Heads-start _) _ c.in-Err.ensures.text

pub returns-in-Err-read_cnf-clause-header : goal.returns-in-Err-read_cnf-clause-header
returns-in-Err-read_cnf-clause-header g c =
    let head = Heads-p _ _ c.in_default.ensures.text in
    Heads-fault _ _ _ (fixed is_cnf) (λ l. l) after_cnf head _ c.in-Err-read_cnf.ensures.text

pub returns-in-Err-read_count-clause-header : goal.returns-in-Err-read_count-clause-header
returns-in-Err-read_count-clause-header g c =
    let cnf = Heads-cnf _ _ c.in_default.ensures.text _ c.in_default-read_cnf.ensures.text in
    Heads-fault _ _ _
    (count 268435455) before_count after_vars cnf _ c.in-Err-read_count.ensures.text

pub returns-in-Err-read_count-2-clause-header : goal.returns-in-Err-read_count-2-clause-header
returns-in-Err-read_count-2-clause-header g c =
    let vars = Heads-vars _ _ c.in_default.ensures.text _ c.in_default-read_cnf.ensures.text _
    c.in-Ok.vars c.in-Ok.ensures.text in
    Heads-fault _ _ _ (count 4294967295) before_count (after_clauses c.in-Ok.vars) vars _
    c.in-Err-read_count-2.ensures.text

pub returns-in-Err-read_line_end-clause-header : goal.returns-in-Err-read_line_end-clause-header
returns-in-Err-read_line_end-clause-header g c =
    let clauses = Heads-clauses _ _ c.in_default.ensures.text _
    c.in_default-read_cnf.ensures.text _ c.in-Ok.vars c.in-Ok.ensures.text _
    c.in-Ok-read_count.clauses c.in-Ok-read_count.ensures.text in
    Heads-fault _ _ _ line_end (λ l. l) (done c.in-Ok.vars c.in-Ok-read_count.clauses) clauses _
    c.in-Err-read_line_end.ensures.text

pub returns-clause-header : goal.returns-clause-header
returns-clause-header g c =
    let clauses = Heads-clauses _ _ c.in_default.ensures.text _
    c.in_default-read_cnf.ensures.text _ c.in-Ok.vars c.in-Ok.ensures.text _
    c.in-Ok-read_count.clauses c.in-Ok-read_count.ensures.text in
    Heads-part _ _ _ line_end (λ l. l) (done c.in-Ok.vars c.in-Ok-read_count.clauses) clauses
    (λ l. l) c.in_default-read_line_end.ensures.text
