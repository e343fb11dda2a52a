-- Numbers that stand whole at the front of bytes.
use Rattle.std.specs.List.{list_all}
use Rattle.std.specs.Prelude.{◌≡◌, ℕ, ◌+◌, ◌*◌, ◌%◌, ◌≤◌, ◌<◌, ◌≢◌, List, [], ◌∷◌, ◌++◌, take, length}
use Rattle.std.specs.Prelude.{true, suc, nat_le, if◌then◌else◌}
use Rattle.cnf_base.specs.Stream.{Along, Stream, most_to_come, tells_failure}
use Rattle.proofs.specs.Binary.{BinarySpot, groups_value}
use Rattle.proofs.specs.Code.Binary.{binary_steps_from}
use Rattle.proofs.specs.Steps.{Step}
use Rattle.proofs.specs.declared.drat_binary.whole.Spelled.{Spelled}

-- the number whose first byte comes before these, if that doesn't end it
abbrev pub before : ℕ → Spelled → Spelled
before b rest =
    if nat_le 128 b then record { count = suc rest.count; value = b % 128 + 128 * rest.value }
    else record { count = 1; value = b % 128 }

-- the number at the front; longer than the bytes where none of them ends it
abbrev pub spelled : List ℕ → Spelled
spelled [] = record { count = 1; value = 0 }
spelled (b ∷ bs) = before b (spelled bs)

-- So many bytes are the number of a literal: all but the last have their high bit set, and the last
-- one isn't empty.
pub record IsWhole (bytes : List ℕ) (count value : ℕ) : Type 0 where
  pub init : List ℕ
  pub last : ℕ
  pub are : take count bytes ≡ init ++ last ∷ []
  pub count_is : count ≡ length init + 1
  pub within : count ≤ length bytes
  pub high : list_all (nat_le 128) init ≡ true
  pub low : last < 128
  pub not_empty : last ≢ 0
  pub says : value ≡ groups_value (init ++ last ∷ [])
  pub least : 2 ≤ value
  pub most : value ≤ 536870911

-- From one state of a source to another literals were put into the step, and what is to come of the
-- proof is the same.
pub record RunsOn (spot : BinarySpot) (old new : Stream) (before after : Step) : Type 0 where
  pub text : Along old new (λ i j. binary_steps_from spot before old.byte_no i
      ≡ binary_steps_from spot after new.byte_no j)
  pub fewer : most_to_come new ≤ most_to_come old
  pub mark : tells_failure new.reader ≡ tells_failure old.reader
