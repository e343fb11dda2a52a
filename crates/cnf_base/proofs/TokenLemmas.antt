-- The token that a call gave.
use Rattle.cnf_base.specs.{Stream.Along, declared.{input.ReadFailed.ReadFailed, token.Token.Token}}
use Rattle.{cnf_base.specs.Stream.Stream, std.proofs.Common.{IsErr, Result, [], arith, ◌≡◌}}
use Rattle.cnf_base.specs.{Text.{Gives, listing_at}, declared.input.Ending.TheVariants.Failed}

-- a call gave this
abbrev pub GivesNext : Result Token ReadFailed → Stream → Stream → Type 0
GivesNext result now new =
    Along now new (λ i j. Gives result (listing_at now.place i) (listing_at new.place j) j)

-- by its pattern
pub told : (now new : Stream) (result token : Result Token ReadFailed) → GivesNext result now new
    → result ≡ token → GivesNext token now new
told now new result token gives is = grind arith

-- a failed read, whatever the error
pub failed : (now new : Stream) (result : Result Token ReadFailed) → IsErr result
    → Along now new (λ i j. (listing_at now.place i ≡ listing_at new.place j)
    × ((listing_at now.place i).tokens ≡ []) × ((listing_at now.place i).ending ≡ Failed))
    → GivesNext result now new
failed now new result err cut = grind arith
