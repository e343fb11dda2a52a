-- A slot that is taken out of its chain.
use Rattle.clause_index.proofs.IndexLemmas.{Anew.all_chained, Chains.{first_out, home_below}}
use Rattle.clause_index.proofs.IndexLemmas.Chains.{linked_same, next_out, not_self, without_apart}
use Rattle.clause_index.specs.Code.Chains.{AreChained, AreLinked, ArePlaced, AreVacant, home}
use Rattle.clause_index.specs.{Code.Chains.link_at, declared.link.Link.Link}
use Rattle.cnf_base.proofs.{SetLemmas.{has-without, without_has}, SizeLemmas.without_absent}
use Rattle.{cnf_base.specs.Literals.{has, without}, std.proofs.Common.{List, None, Option, Some}}
use Rattle.std.proofs.Common.{ap, arith, cond, false, get_or, get_or-set_other, get_or-set_same}
use Rattle.std.proofs.Common.{if◌then◌else◌, length, length-set, ne_eqb, refl, set, subst, true, ℕ}
use Rattle.std.proofs.Common.{◌<◌, ◌==◌, ◌∙◌, ◌≡◌, ◌≢◌, ◌≤◌}

module _ (links after : List Link) (heads firsts : List ℕ) (held : ℕ → Option ℕ) (old : AreChained links heads held)
    (slot hash : ℕ) (is_held : held slot ≡ Some hash)
    (as_many : length after ≡ length links) (as_long : length firsts ≡ length heads)
    (hashes : (s : ℕ) → (link_at after s).hash ≡ (link_at links s).hash)
    (others : (s : ℕ) → has (old.chain (home (length heads) hash)) s ≡ false → (link_at after s).next ≡ (link_at links s).next)
    (rest : (b : ℕ) → b ≢ home (length heads) hash → get_or firsts b 0 ≡ get_or heads b 0)
    (linked_here : AreLinked after (get_or firsts (home (length heads) hash) 0) (without (old.chain (home (length heads) hash)) slot)) where
  abbrev pub here : ℕ
  here = home (length heads) hash

  abbrev pub now : ℕ → Option ℕ
  now s = if s == slot then None else held s

  now_other : (s : ℕ) → s ≢ slot → now s ≡ held s
  now_other s ne = ap (λ t. cond t None (held s)) (ne_eqb s slot ne)

  -- a slot that is held now was held, and is another one
  now_was : (s h : ℕ) → now s ≡ Some h → (s ≢ slot) × (held s ≡ Some h)
  now_was s h e = grind arith

  linked_now : (b : ℕ) → b < length heads → AreLinked after (get_or firsts b 0) (without (old.chain b) slot)
  linked_now b low = grind (arith, linked_same, without_absent)

  pub out_chained : AreChained after firsts now
  out_chained = record {
    chain = λ b. without (old.chain b) slot;
    linked = λ b low. linked_now b (subst (λ n. b < n) as_long low);
    apart = λ b. without_apart (old.chain b) slot (old.apart b);
    there = grind (arith, now_was, has-without);
    back = grind (arith, without_has, now_other);
    inside = grind (arith, now_was);
    low = λ s h e. old.low s h (now_was s h e).1;
    some = grind (arith, now_was);
    hashes = λ s h e. hashes s ∙ old.hashes s h (now_was s h e).1;
  }

-- ---- The two ways that a slot goes

module _ (links : List Link) (heads : List ℕ) (held : ℕ → Option ℕ) (old : AreChained links heads held) (vacant : AreVacant links held)
    (slot hash : ℕ) (is_held : held slot ≡ Some hash) (after : List Link) (as_many : length after ≡ length links)
    (hashes : (s : ℕ) → (link_at after s).hash ≡ (link_at links s).hash) (itself : (link_at after slot).next ≡ slot) where
  abbrev pub home_is : ℕ
  home_is = home (length heads) hash

  low : slot ≢ 4294967295
  low e = grind arith

  -- it was the first one
  module _ (firsts : List ℕ) (as_long : length firsts ≡ length heads) (was_first : get_or heads (home (length heads) hash) 0 ≡ slot)
      (first : get_or firsts (home (length heads) hash) 0 ≡ (link_at links slot).next)
      (rest : (b : ℕ) → b ≢ home (length heads) hash → get_or firsts b 0 ≡ get_or heads b 0)
      (others : (s : ℕ) → s ≢ slot → (link_at after s).next ≡ (link_at links s).next) where
    pub chain_others : (s : ℕ) → has (old.chain home_is) s ≡ false → (link_at after s).next ≡ (link_at links s).next
    chain_others s none = grind arith

    pub linked_first : AreLinked after (get_or firsts home_is 0) (without (old.chain home_is) slot)
    linked_first = grind (arith, first_out, home_below)

    pub first_goes : AreChained after firsts (now links after heads firsts held old slot hash is_held as_many as_long hashes chain_others rest linked_first)
    first_goes = grind (arith, out_chained, linked_first)

    pub first_vacant : AreVacant after (now links after heads firsts held old slot hash is_held as_many as_long hashes chain_others rest linked_first)
    first_vacant = grind arith

  -- it came after another
  module _ (p : ℕ) (p_in : has (old.chain (home (length heads) hash)) p ≡ true) (p_next : (link_at links p).next ≡ slot)
      (past : (link_at after p).next ≡ (link_at links slot).next)
      (others : (s : ℕ) → s ≢ p → s ≢ slot → (link_at after s).next ≡ (link_at links s).next) where
    pub next_others : (s : ℕ) → has (old.chain home_is) s ≡ false → (link_at after s).next ≡ (link_at links s).next
    next_others s none = grind arith

    pub linked_next : AreLinked after (get_or heads home_is 0) (without (old.chain home_is) slot)
    linked_next = grind (arith, next_out, home_below)

    pub next_goes : AreChained after heads (now links after heads heads held old slot hash is_held as_many refl hashes next_others (λ b ne. refl) linked_next)
    next_goes = grind (arith, out_chained, linked_next)

    pub next_vacant : AreVacant after (now links after heads heads held old slot hash is_held as_many refl hashes next_others (λ b ne. refl) linked_next)
    next_vacant = grind arith

-- ---- Links and heads as they are written

module _ (links : List Link) (heads : List ℕ) (placed : ℕ) (held gone : ℕ → Option ℕ)
    (sound : ArePlaced links heads placed held) (all : length links ≤ placed)
    (slot hash : ℕ) (is_held : held slot ≡ Some hash)
    (same : (s : ℕ) → (if s == slot then None else held s) ≡ gone s)
    (last : Link) (itself : last.next ≡ slot) (next : ℕ) (next_is : next ≡ (link_at links slot).next) where
  abbrev pub chained : AreChained links heads held
  chained = all_chained links heads placed held sound all

  placed_still : (after : List Link) (firsts : List ℕ) → length after ≡ length links
      → AreChained after firsts (λ s. if s == slot then None else held s)
      → AreVacant after (λ s. if s == slot then None else held s) → ArePlaced after firsts placed gone
  placed_still after firsts long out vacant = grind arith

  pub first_removed : (at : ℕ) → at ≡ home (length heads) hash
      → last.hash ≡ (link_at links slot).hash → get_or heads (home (length heads) hash) 0 ≡ slot
      → ArePlaced (set links slot last) (set heads at next) placed gone
  first_removed at at_is kept first =
      let inside = chained.inside slot hash is_held in
      let low : at < length heads = grind (arith, home_below, chained.some slot hash) in
      let after = set links slot last in
      let firsts = set heads at next in
      let hashes : (s : ℕ) → (link_at after s).hash ≡ (link_at links s).hash = grind (arith, get_or-set_same, get_or-set_other) in
      let own : (link_at after slot).next ≡ slot = grind (arith, get_or-set_same) in
      let begins : get_or firsts (home (length heads) hash) 0 ≡ (link_at links slot).next = grind (arith, get_or-set_same) in
      let rest : (b : ℕ) → b ≢ home (length heads) hash → get_or firsts b 0 ≡ get_or heads b 0 = grind (arith, get_or-set_other) in
      let nexts : (s : ℕ) → s ≢ slot → (link_at after s).next ≡ (link_at links s).next = grind (arith, get_or-set_other) in
      let long = length-set links slot last in
      let many = length-set heads at next in
      placed_still after firsts long
      (first_goes links heads held chained sound.vacant slot hash is_held after long hashes own firsts many first begins rest nexts)
      (first_vacant links heads held chained sound.vacant slot hash is_held after long hashes own firsts many first begins rest nexts)

  pub next_removed : (p : ℕ) → has (chained.chain (home (length heads) hash)) p ≡ true → (link_at links p).next ≡ slot
      → (over : Link) → over.hash ≡ (link_at links p).hash → over.next ≡ next
      → last.hash ≡ (link_at (set links p over) slot).hash
      → ArePlaced (set (set links p over) slot last) heads placed gone
  next_removed p p_in p_next over over_hash over_next kept =
      let inside = chained.inside slot hash is_held in
      let back = chained.back (home (length heads) hash) p p_in in
      let p_inside = chained.inside p back.0 back.1 in
      let ne : p ≢ slot = grind (arith, not_self, home_below) in
      let mid = set links p over in
      let after = set mid slot last in
      let mids : (s : ℕ) → (link_at mid s).hash ≡ (link_at links s).hash = grind (arith, get_or-set_same, get_or-set_other) in
      let hashes : (s : ℕ) → (link_at after s).hash ≡ (link_at links s).hash = grind (arith, get_or-set_same, get_or-set_other, length-set) in
      let own : (link_at after slot).next ≡ slot = grind (arith, get_or-set_same, length-set) in
      let past : (link_at after p).next ≡ (link_at links slot).next = grind (arith, get_or-set_same, get_or-set_other) in
      let nexts : (s : ℕ) → s ≢ p → s ≢ slot → (link_at after s).next ≡ (link_at links s).next = grind (arith, get_or-set_other) in
      let long : length after ≡ length links = grind (arith, length-set) in
      placed_still after heads long
      (next_goes links heads held chained sound.vacant slot hash is_held after long hashes own p p_in p_next past nexts)
      (next_vacant links heads held chained sound.vacant slot hash is_held after long hashes own p p_in p_next past nexts)
