use Rattle.{std.proofs.Common.subst, theory.proofs.LratLemmas.Steps.{ChainMeans, chain_means}}
use Rattle.theory.proofs.laws.chain_shows_clash.Goals as goal

pub returns : goal.returns
returns c = λ live assumed start hints forced ends. subst (ChainMeans live assumed)
    ends (chain_means live assumed hints start forced)
