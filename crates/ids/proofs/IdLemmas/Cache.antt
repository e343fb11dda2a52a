-- The lines of a cache.
use Rattle.std.proofs.Common.{◌≡◌, ◌≢◌, ℕ, ◌<◌, cond, eqb, eq-eqb, ne_eqb, List, length, get_or}
use Rattle.std.proofs.Common.{set, sym, ap, ◌∙◌, arith, inl, inr, get_or-set_same, get_or-set_other}
use Rattle.std.proofs.Common.{replicate, bit_and, if◌then◌else◌, nat_lt}
use Rattle.std.proofs.lemmas.{Bool.cases_eq, Bool.cases_lt, Bool.lt-ltb, Nat.and_le_r}
use Rattle.std.proofs.lemmas.List.{get_or_past, get_or_default, get_or-replicate, length-replicate}
use Rattle.ids.specs.{Code.Cache.page_of, Code.Cache.page_among, declared.cache.Line.Line}

abbrev free : Line
free = record { number = 0; page = 0 }

free_has_none : (k : ℕ) → page_of free k ≡ 0
free_has_none k = grind arith

page_of-here : (line : Line) (k : ℕ) → line.number ≡ k → page_of line k ≡ line.page
page_of-here line k is = ap (λ b. cond b line.page 0) (eq-eqb line.number k is)

pub page_of-other : (line : Line) (k : ℕ) → line.number ≢ k → page_of line k ≡ 0
page_of-other line k apart = ap (λ b. cond b line.page 0) (ne_eqb line.number k apart)

-- where it has a page, it is of another number
page_of-unless : (line : Line) (k : ℕ) → (line.page ≢ 0 → line.number ≢ k) → page_of line k ≡ 0
page_of-unless line k other = grind (arith, cases_eq, page_of-here, page_of-other)

pub none_in_free : (len mask k : ℕ) → page_among (replicate len free) mask k ≡ 0
none_in_free len mask k =
    grind (arith, cases_lt, get_or-replicate, free, free_has_none, get_or_past, length-replicate)

-- ---- One number, and the line that it has

module _ (lines : List Line) (mask number : ℕ) (has : mask < length lines) (line : Line)
    (read : line ≡ get_or lines (bit_and number mask) line) where
  inside : bit_and number mask < length lines
  inside = let most = and_le_r number mask in omega arith

  line_is : line ≡ get_or lines (bit_and number mask) free
  line_is = read ∙ get_or_default lines (bit_and number mask) line free inside

  pub among_line : page_among lines mask number ≡ page_of line number
  among_line = ap (λ (l : Line). page_of l number) (sym line_is)

  among_here : line.number ≡ number → page_among lines mask number ≡ line.page
  among_here is = among_line ∙ page_of-here line number is

  among_none : line.number ≢ number → page_among lines mask number ≡ 0
  among_none apart = among_line ∙ page_of-other line number apart

  -- it has none, so nothing has to be cleared
  pub not_cleared : line.number ≢ number → (k : ℕ) → page_among lines mask k ≡ cond (eqb k number) 0 (page_among lines mask k)
  not_cleared apart k = grind (arith, cases_eq, among_none, eq-eqb, ne_eqb)

  pub cleared : line.number ≡ number → (k : ℕ) → page_among (set lines (bit_and number mask) free) mask k ≡ cond (eqb k number) 0 (page_among lines mask k)
  cleared is k = elim (cases_eq (bit_and k mask) (bit_and number mask)) [
    | inl same ↦
        let at : page_among (set lines (bit_and number mask) free) mask k ≡ 0 =
        ap (λ i. page_of (get_or (set lines (bit_and number mask) free) i free) k) same ∙ ap (λ (l : Line). page_of l k) (get_or-set_same lines (bit_and number mask) free free inside) ∙ free_has_none k in
        elim (cases_eq k number) [
          | inl here ↦ at ∙ ap (λ b. cond b 0 (page_among lines mask k)) (sym (eq-eqb k number here))
          | inr other ↦ grind (arith, free, line_is, page_of-other, ne_eqb)
        ]
    | inr apart ↦ grind (arith, get_or-set_other, free, ne_eqb)
  ]

  module _ (page : ℕ) where
    abbrev after : List Line
    after = set lines (bit_and number mask) (record { number = number; page = page })

    -- no other number has a page in the line
    pub put_in : (line.page ≢ 0 → line.number ≡ number) → (k : ℕ) → page_among after mask k ≡ cond (eqb k number) page (page_among lines mask k)
    put_in own k =
        grind (
          arith,
          cases_eq,
          after,
          get_or-set_same,
          free,
          inside,
          page_of-here,
          eq-eqb,
          page_of-other,
          line_is,
          page_of-unless,
          ne_eqb,
          get_or-set_other,
        )

-- ---- Lines that are moved to a longer cache, up to a place

-- what a number has there
abbrev pub moved_to : List Line → ℕ → ℕ → ℕ → ℕ
moved_to lines mask i k = if nat_lt (bit_and k mask) i then page_among lines mask k else 0

pub moved_all : (lines : List Line) (mask i k : ℕ) → mask < i → moved_to lines mask i k ≡ page_among lines mask k
moved_all lines mask i k past = let most = and_le_r k mask in ap (λ b. cond b (page_among lines mask k) 0) (lt-ltb (bit_and k mask) i (omega arith))
