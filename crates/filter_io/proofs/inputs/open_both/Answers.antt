-- Each file is the one of the name that was asked for.
use Rattle.{filter_io.{proofs.OpenLemmas.of_name, specs.Origins.left_of}, std.proofs.Common.rules}
use Rattle.filter_io.proofs.inputs.open_both.Goals as goal

pub returns-in_ok-open_file-in-Some-Some-clause-formula :
    goal.returns-in_ok-open_file-in-Some-Some-clause-formula
returns-in_ok-open_file-in-Some-Some-clause-formula g c =
    of_name _ _ _ _ c.in-Some-Some.formula.now _ (search rules) (c.in_ok-formula-in-Some-Some.ensures (left_of g.S.Standard.Read.remaining c.args.standard))

pub returns-in_ok-open_file-in-Some-Some-clause-second :
    goal.returns-in_ok-open_file-in-Some-Some-clause-second
returns-in_ok-open_file-in-Some-Some-clause-second g c =
    of_name _ _ _ _ c.in-Some-Some.second.now _ (search rules) (c.in_ok-open_file-in-Some-Some.ensures (left_of g.S.Standard.Read.remaining c.args.standard))

pub returns-in_ok-open_standard-in-Some-None-clause-formula :
    goal.returns-in_ok-open_standard-in-Some-None-clause-formula
returns-in_ok-open_standard-in-Some-None-clause-formula g c =
    of_name _ _ _ _ c.in-Some-None.formula.now _ (search rules) (c.in_ok-formula-in-Some-None.ensures (left_of g.S.Standard.Read.remaining c.args.standard))

pub returns-in_ok-open_file-in-None-Some-clause-second :
    goal.returns-in_ok-open_file-in-None-Some-clause-second
returns-in_ok-open_file-in-None-Some-clause-second g c =
    of_name _ _ _ _ c.in-None-Some.second.now _ (search rules) (c.in_ok-open_file-in-None-Some.ensures (left_of g.S.Standard.Read.remaining c.args.standard))
