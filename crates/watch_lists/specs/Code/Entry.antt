-- How an entry is kept: its slot and its mark in one number.
use Rattle.std.specs.Prelude.{ℕ, zero, suc, ◌≡◌, ◌==◌, ◌+◌, ◌*◌, ◌/◌, ◌%◌, ◌<◌, if◌then◌else◌, refl}
use Rattle.std.proofs.Common.{ap, ◌∙◌}
use Rattle.std.proofs.Math.Nat.{div-add-mod, le_of_suc-le-suc, mod-lt, not-suc-le-zero, zero-lt-suc}

-- the mark is a bit
bit_back : (n : ℕ) → n < 2 → (if n == 1 then 1 else 0) ≡ n
bit_back zero low = refl
bit_back (suc zero) low = refl
bit_back (suc (suc n)) low = absurd (not-suc-le-zero (le_of_suc-le-suc (le_of_suc-le-suc low)))

-- they give the number back
pub code_back : (n : ℕ) → 2 * (n / 2) + (if n % 2 == 1 then 1 else 0) ≡ n
code_back n =
    ap (λ bit. 2 * (n / 2) + bit) (bit_back (n % 2) (mod-lt n (zero-lt-suc 1))) ∙ div-add-mod n 2
