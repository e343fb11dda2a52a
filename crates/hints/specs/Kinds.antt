-- What an input is, where the bytes that it begins with are that kind's alone (our own profile).
use Rattle.std.specs.Prelude.{◌≡◌, ℕ, ◌||◌, Bool, true, false, List, [], ◌∷◌, codes}
use Rattle.std.specs.Prelude.{Option, None, Some, if◌then◌else◌}
use Rattle.hints.specs.Bytes.{begins}
use Rattle.hints.specs.declared.encoding.Encoding.{Encoding}
use Rattle.hints.specs.declared.encoding.Encoding.TheVariants as encoding
use Rattle.hints.specs.declared.kind.Kind.{Kind}
use Rattle.hints.specs.declared.kind.Kind.TheVariants as kind

-- the numbers with which each encoding begins
abbrev pub encoding_of : List ℕ → Option Encoding
encoding_of first =
    if begins first (0x1f ∷ 0x8b ∷ []) then Some encoding.Gzip
    else if begins first (0xfd ∷ 0x37 ∷ 0x7a ∷ 0x58 ∷ 0x5a ∷ []) then Some encoding.Xz
    else if begins first (codes "BZh") then Some encoding.Bzip2
    else if begins first (0x28 ∷ 0xb5 ∷ 0x2f ∷ 0xfd ∷ []) then Some encoding.Zstd
    else if begins first (0xef ∷ 0xbb ∷ 0xbf ∷ []) then Some encoding.Utf8Mark
    else if begins first (0xff ∷ 0xfe ∷ []) || begins first (0xfe ∷ 0xff ∷ [])
    then Some encoding.Utf16
    else None

abbrev pub is_html : List ℕ → Bool
is_html first =
    begins first (codes "<!") || (begins first (codes "<?")
    || (begins first (codes "<h") || begins first (codes "<H")))

abbrev pub is_opb : List ℕ → Bool
is_opb first = begins first (codes "* #variable=") || begins first (codes "min:")

abbrev pub plain_kind : List ℕ → Option Kind
plain_kind first =
    if is_html first then Some kind.Html
    else if is_opb first then Some kind.Opb
    else if begins first (codes "pseudo-Boolean proof") then Some kind.VeriPb
    else if begins first (codes "o proof ") then Some kind.ProofLine
    else None

abbrev pub encoded_or : Option Encoding → Option Kind → Option Kind
encoded_or (Some e) other = Some (kind.Encoded e)
encoded_or None other = other

abbrev pub marked_kind : List ℕ → Option Kind
marked_kind [] = Some kind.Empty
marked_kind (byte ∷ bytes) =
    encoded_or (encoding_of (byte ∷ bytes)) (plain_kind (byte ∷ bytes))

-- the kinds that are told so
abbrev pub is_marked : Option Kind → Bool
is_marked (Some kind.Empty) = true
is_marked (Some (kind.Encoded e)) = true
is_marked (Some kind.Html) = true
is_marked (Some kind.Opb) = true
is_marked (Some kind.VeriPb) = true
is_marked (Some kind.ProofLine) = true
is_marked _ = false

abbrev pub ShowsBy : Option Kind → Option Kind → Type 0
ShowsBy (Some k) shown = shown ≡ Some k
ShowsBy None shown = is_marked shown ≡ false

-- The kind that these first bytes show: one of those where they are its own, and otherwise none of
-- those.
abbrev pub Shows : List ℕ → Option Kind → Type 0
Shows first shown = ShowsBy (marked_kind first) shown
