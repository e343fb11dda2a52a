-- The lines of a cache: pages count from 1, and 0 is none.
use Rattle.std.specs.Prelude.{ℕ, List, ◌==◌, if◌then◌else◌, bit_and, slice_index_or}
use Rattle.ids.specs.declared.cache.Cache.{Cache}
use Rattle.ids.specs.declared.cache.Line.{Line}

-- the page of a page number, where the line has it, or else 0
abbrev pub page_of : Line → ℕ → ℕ
page_of line number = if line.number == number then line.page else 0

-- the page of a page number in its line of a cache, which the mask says, or 0
abbrev pub page_among : List Line → ℕ → ℕ → ℕ
page_among lines mask number =
    page_of (slice_index_or lines (bit_and number mask) (record { number = 0; page = 0 })) number

-- by the cache; each field has to be named here
unfoldable pub cached_at : Cache → ℕ → ℕ
cached_at cache number =
    let record { alloc = _; lines = lines; mask = mask; each_has_one = _ } = cache in
    page_among lines.items mask number
