-- More digits go on with the first ones.
use Rattle.cnf_base.{proofs.WholeLemmas.{GoOn-more, unsigned-behind}, specs.Code.Eight.unsigned}
use Rattle.cnf_base.proofs.scanner.whole.long_digits.Goals as goal

pub returns-clause-digits : goal.returns-clause-digits
returns-clause-digits c =
    let front = c.requires.front in
    let same = unsigned-behind c.args.is_negative c.args.bytes.now c.args.count front.some
    c.requires.inside in
    GoOn-more (unsigned c.args.is_negative c.args.bytes.now) c.args.count c.args.size
    c.in_ok-more.more c.in_ok-more.size front.each front.says (rw (← same) c.in_ok-more.ensures)
