-- Identifiers of clauses, by pages of 1024.
use Rattle.std.specs.BTreeMap.{BTreeMap}
use Rattle.std.specs.FinMap as maps
use Rattle.std.specs.FinMap.{FinMap}
use Rattle.std.specs.Ordering.{nat_cmp}
use Rattle.std.specs.Prelude.{ℕ, ◌==◌, if◌then◌else◌, slice_index, ◌-◌, Option, Some}
use Rattle.std.specs.Prelude.{None, ◌+◌, ◌*◌, ◌%◌, ◌/◌, List, zero, suc, ◌^◌, ◌≡◌, ◌≤◌, length, ◌≢◌}
use Rattle.std.specs.Prelude.{◌<◌}
use Rattle.ids.specs.Code.Cache.{cached_at}
use Rattle.ids.specs.Code.Far.{far_at}
use Rattle.ids.specs.declared.directory.Directory.{Directory}
use Rattle.ids.specs.declared.pages.Pages.{Pages}

-- ---- The directory: pages count from 1, and 0 is none

-- the page of a page number in its line, or else the far one; each field has to be named here
unfoldable pub page_at : Directory → ℕ → ℕ
page_at directory number =
    let record { cache = cache; far = far; held = _ } = directory in
    if cached_at cache number == 0 then far_at far number else cached_at cache number

-- ---- Entries: a slot's number and 1, or 0 where nothing is bound

abbrev pub slot_from : ℕ → Option ℕ
slot_from entry = if entry == 0 then None else Some (entry - 1)

-- where a page has the entry of an identifier
abbrev pub place : ℕ → ℕ → ℕ
place page id = 1024 * (page - 1) + id % 1024

-- the entry of an identifier in its page, by the pages of the page numbers
abbrev pub entry_in : (ℕ → ℕ) → List ℕ → ℕ → ℕ
entry_in page entries id =
    if page (id / 1024) == 0 then 0 else slice_index entries (place (page (id / 1024)) id)

-- by a directory and its pages; each field of these has to be named here
abbrev pub entry_at : Directory → Pages → ℕ → ℕ
entry_at directory pages id =
    let record { entries = entries; live = _; numbers = _; free = _ } = pages in
    entry_in (page_at directory) entries.items id

-- the entry of an identifier: in its page, or else the far one
abbrev pub entry_for : Directory → Pages → BTreeMap ℕ ℕ → ℕ → ℕ
entry_for directory pages far id =
    if entry_at directory pages id == 0 then far_at far id else entry_at directory pages id

-- 1 where something is bound
abbrev pub counted_as : ℕ → ℕ
counted_as entry = if entry == 0 then 0 else 1

-- how many of the n entries from the start on are bound
unfoldable pub bound_from : List ℕ → ℕ → ℕ → ℕ
bound_from entries start zero = 0
bound_from entries start (suc n) =
    bound_from entries start n + counted_as (slice_index entries (start + n))

-- ---- As a finite map

abbrev pub with_slot : FinMap nat_cmp ℕ → ℕ → Option ℕ → FinMap nat_cmp ℕ
with_slot map id None = map
with_slot map id (Some slot) = maps.insert map id slot

-- the identifiers below a bound that have a slot
unfoldable pub map_below : ℕ → (ℕ → Option ℕ) → FinMap nat_cmp ℕ
map_below zero slot = maps.empty
map_below (suc n) slot = with_slot (map_below n slot) n (slot n)

-- by the entry of each identifier
unfoldable pub as_map : (ℕ → ℕ) → FinMap nat_cmp ℕ
as_map entry = map_below (2 ^ 64) (λ id. slot_from (entry id))

-- ---- What always holds

-- how many entries of each page are bound
abbrev pub Counts : List ℕ → List ℕ → Type 0
Counts entries live = (i : ℕ) → slice_index live i ≡ bound_from entries (1024 * i) 1024

-- each page has its entries and its count
pub record IsCounted (pages : Pages) : Type 0 where
  pub room : 1024 * length pages.numbers.items ≤ length pages.entries.items
  pub counters : length pages.numbers.items ≤ length pages.live.items
  pub counts : Counts pages.entries.items pages.live.items

-- the page of a page number has that number and 1, so that no two have one page
abbrev pub IsOwned : (ℕ → ℕ) → List ℕ → Type 0
IsOwned page numbers =
    (number : ℕ) → page number ≢ 0 → (slice_index numbers (page number - 1) ≡ number + 1)
    × (number < 2 ^ 54)

pub record IsPaged (directory : Directory) (pages : Pages) : Type 0 where
  pub counted : IsCounted pages
  pub owned : IsOwned (page_at directory) pages.numbers.items

-- an identifier with an entry in a page has no far one
pub record IsHeld (directory : Directory) (pages : Pages) (far : BTreeMap ℕ ℕ) : Type 0 where
  pub paged : IsPaged directory pages
  pub once : (id : ℕ) → entry_at directory pages id ≢ 0 → far_at far id ≡ 0

-- all entries and page numbers read as before, where 0 is read past the end
pub record ReadsSame (old new : Pages) : Type 0 where
  pub entries : (k : ℕ) → slice_index new.entries.items k ≡ slice_index old.entries.items k
  pub numbers : (k : ℕ) → slice_index new.numbers.items k ≡ slice_index old.numbers.items k

-- a page that was made
pub record HasPage (pages : Pages) (page : ℕ) : Type 0 where
  pub counted : IsCounted pages
  pub from_one : 0 < page
  pub within : page ≤ length pages.numbers.items

abbrev pub IsEmptyPage : Pages → ℕ → Type 0
IsEmptyPage pages page =
    (k : ℕ) → k < 1024 → slice_index pages.entries.items (1024 * (page - 1) + k) ≡ 0

-- a page with no number, in which nothing is bound
pub record IsVacant (pages : Pages) (page : ℕ) : Type 0 where
  pub made : HasPage pages page
  pub no_number : slice_index pages.numbers.items (page - 1) ≡ 0
  pub empty : IsEmptyPage pages page

-- the first number of a row from a place on that is not 0
pub record IsFirst (at : ℕ → ℕ) (from to found : ℕ) : Type 0 where
  pub above : from ≤ found
  pub below : found < to
  pub there : at found ≢ 0
  pub before : (k : ℕ) → from ≤ k → k < found → at k ≡ 0
