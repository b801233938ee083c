-- The mappings of the pages of a space, and of the spaces, one after another.
use Rattle.std.proofs.Common.{Bool, if◌then◌else◌, ◌≡◌, ◌⊎◌, inl, inr, nat_le, true, false, ◌&&◌, ℕ, zero, suc, refl, ◌+◌, ◌-◌, ◌<◌, ◌≤◌, List, [], ◌∷◌, ◌++◌, map, set, filter, length, Option, Some, None, sym, ap, ◌∙◌, subst, arith, append_assoc, append-nil}
use Rattle.std.proofs.lemmas.List.{map-append}
use Rattle.std.proofs.lemmas.Bool.Decides.{leb_tells}
use Rattle.std.proofs.Math.Bool.{and-true}
use Rattle.std.specs.Option.{option_map}
use Rattle.space.specs.declared.place.Place.{Place}
use Rattle.space.specs.Directory.{pages_of}
use Rattle.model.specs.Definitions.Calls.{Limits}
use Rattle.model.specs.Definitions.Holdings.{Held, Holdings, PlaceSet, keep, at, only}
use Rattle.model.specs.Definitions.Derived.{is_below}
use Rattle.mapdb.specs.Held.{AreAbsentFrom, from_page, pages_from, spaces_from, listed, listing}
use Rattle.c_handle.specs.Listed.{chosen, end_of, first_of, in_space_from, is_chosen, mapping_told, mappings_at, mappings_of, places_to, WritesBehind}
use Rattle.c_handle.specs.declared.mappings.Listing.{Listing}
use Rattle.c_handle.specs.declared.mappings.Listing.TheVariants.{From, OfSpace, Below}
use Rattle.c_handle.specs.declared.mappings.MappingReply.{MappingReply}
use Rattle.c_handle.proofs.Buffers.{writes_none, writes_more, writes_full, writes_both}
use Rattle.c_handle.proofs.Listings.{pages_more, pages_and, spaces_more, listed_and, listed_chosen, places_behind, places_in, none_behind, none_in}

-- the mappings at places in two parts
pub mappings_and : (held : Place → Option Held) (ps qs : List Place) → mappings_at held (ps ++ qs) ≡ mappings_at held ps ++ mappings_at held qs
mappings_and held ps qs = ap (map mapping_told) (listed_and held ps qs) ∙ map-append mapping_told (listed held ps) (listed held qs)

-- a page that holds nothing has no mapping that is asked for
pub unchosen : (l : Listing) (h : Holdings) (space from to : ℕ) → AreAbsentFrom h space from to → (p : Place) → p.space ≡ space → from ≤ p.page → p.page < to → chosen l h p ≡ None
unchosen l h space from to absent p same after before = by (is_chosen l h p) (at h p) (absent p same after before)
  where
    by : (b : Bool) (m : Option Held) → m ≡ None → (if b then m else None) ≡ None
    by true m none = none
    by false m none = refl

-- no mapping is at pages that hold nothing
none_listed : (held : Place → Option Held) (space page n : ℕ) → ((j : ℕ) → page ≤ j → j < page + n → held (record { space = space; page = j }) ≡ None) → listed held (pages_from space page n) ≡ []
none_listed held space page zero none = refl
none_listed held space page (suc n) none =
    ap (λ m. keep (record { space = space; page = page }) m (listed held (pages_from space (page + 1) n))) (none page (omega arith) (omega arith))
    ∙ none_listed held space (page + 1) n (λ j after before. none j (omega (arith, after)) (omega (arith, before)))

-- ---- one page

module _ (before : List MappingReply) (count : ℕ) (p : Place) where
  -- a page that holds nothing
  pub page_none : (m : Option Held) → None ≡ option_map (λ m. mapping_told (p, m)) m → WritesBehind before count (map mapping_told (keep p m [])) before count
  page_none None is = writes_none before count
  page_none (Some m) is = absurd (cc is)

  -- a page that holds something
  pub page_some : (m : Option Held) (r : MappingReply) → Some r ≡ option_map (λ m. mapping_told (p, m)) m → count < length before → WritesBehind before count (map mapping_told (keep p m [])) (set before count r) (count + 1)
  page_some None r is room = absurd (cc is)
  page_some (Some m) r is room =
      let same : mapping_told (p, m) ≡ r = cc is in
      subst (λ t. WritesBehind before count (t ∷ []) (set before count r) (count + 1)) (sym same) (writes_more before count [] before count (writes_none before count) room r)

-- ---- the pages of a space

module _ (held : Place → Option Held) (space first : ℕ) (before : List MappingReply) (count : ℕ) where
  -- before the first page
  pub space_start : WritesBehind before count (mappings_at held (pages_from space first (first - first))) before count
  space_start =
      let none : first - first ≡ 0 = omega arith in
      subst (λ n. WritesBehind before count (mappings_at held (pages_from space first n)) before count) (sym none) (writes_none before count)

  -- one page more
  pub space_more : (page : ℕ) → first ≤ page → (after : List MappingReply) (told : ℕ) → WritesBehind before count (mappings_at held (pages_from space first (page - first))) after told
      → (last : List MappingReply) (end : ℕ) → WritesBehind after told (mappings_at held (record { space = space; page = page } ∷ [])) last end
      → WritesBehind before count (mappings_at held (pages_from space first (page + 1 - first))) last end
  space_more page from after told so_far last end one =
      let here : Place = record { space = space; page = page } in
      let many : page - first + 1 ≡ page + 1 - first = omega (arith, from) in
      let which : first + (page - first) ≡ page = omega (arith, from) in
      let pages = sym (ap (pages_from space first) many) ∙ pages_more space first (page - first) ∙ ap (λ g. pages_from space first (page - first) ++ (record { space = space; page = g } ∷ [])) which in
      let parts = ap (mappings_at held) pages ∙ mappings_and held (pages_from space first (page - first)) (here ∷ []) in
      subst (λ l. WritesBehind before count l last end) (sym parts)
      (writes_both before count (mappings_at held (pages_from space first (page - first))) after told so_far (mappings_at held (here ∷ [])) last end one)

  -- pages that hold nothing
  pub space_gap : (from to : ℕ) → first ≤ from → from ≤ to → ((p : Place) → p.space ≡ space → from ≤ p.page → p.page < to → held p ≡ None) → (after : List MappingReply) (told : ℕ)
      → WritesBehind before count (mappings_at held (pages_from space first (from - first))) after told → WritesBehind before count (mappings_at held (pages_from space first (to - first))) after told
  space_gap from to low high none after told so_far =
      let many : to - first ≡ from - first + (to - from) = omega (arith, low, high) in
      let on : first + (from - first) ≡ from = omega (arith, low) in
      let earlier = pages_from space first (from - first) in
      let gap = pages_from space (first + (from - first)) (to - from) in
      let nothing : listed held gap ≡ [] =
      ap (λ g. listed held (pages_from space g (to - from))) on
      ∙ none_listed held space from (to - from) (λ j after before. none (record { space = space; page = j }) refl after (omega (arith, after, before, high))) in
      let split = ap (pages_from space first) many ∙ pages_and space first (from - first) (to - from) in
      let parts = ap (mappings_at held) split ∙ mappings_and held earlier gap ∙ ap (λ es. mappings_at held earlier ++ map mapping_told es) nothing ∙ append-nil (mappings_at held earlier) in
      subst (λ l. WritesBehind before count l after told) (sym parts) so_far

  -- no page from one on up to the end holds anything; that one may lie past the end only where it is the first
  pub space_end : (from pages : ℕ) → first ≤ from → (pages < from → from ≡ first) → ((p : Place) → p.space ≡ space → from ≤ p.page → p.page < pages → held p ≡ None) → (after : List MappingReply) (told : ℕ)
      → WritesBehind before count (mappings_at held (pages_from space first (from - first))) after told → WritesBehind before count (mappings_at held (pages_from space first (pages - first))) after told
  space_end from pages low start none after told so_far = by (leb_tells from pages)
    where
      by : ((nat_le from pages ≡ true) × (from ≤ pages)) ⊎ ((nat_le from pages ≡ false) × (pages < from)) → WritesBehind before count (mappings_at held (pages_from space first (pages - first))) after told
      by (inl h) = space_gap from pages low h.1 none after told so_far
      by (inr h) =
          let same : from ≡ first = start h.1 in
          let many : from - first ≡ pages - first = omega (arith, same, h.1) in
          subst (λ n. WritesBehind before count (mappings_at held (pages_from space first n)) after told) many so_far

  -- the buffer is full
  pub space_full : (from pages : ℕ) → first ≤ from → (pages < from → from ≡ first) → (after : List MappingReply) (told : ℕ) → WritesBehind before count (mappings_at held (pages_from space first (from - first))) after told
      → told ≡ length after → WritesBehind before count (mappings_at held (pages_from space first (pages - first))) after told
  space_full from pages low start after told so_far full = by (leb_tells from pages)
    where
      by : ((nat_le from pages ≡ true) × (from ≤ pages)) ⊎ ((nat_le from pages ≡ false) × (pages < from)) → WritesBehind before count (mappings_at held (pages_from space first (pages - first))) after told
      by (inl h) =
          let many : pages - first ≡ from - first + (pages - from) = omega (arith, low, h.1) in
          let split = ap (pages_from space first) many ∙ pages_and space first (from - first) (pages - from) in
          let rest = pages_from space (first + (from - first)) (pages - from) in
          let parts = ap (mappings_at held) split ∙ mappings_and held (pages_from space first (from - first)) rest in
          subst (λ l. WritesBehind before count l after told) (sym parts)
          (writes_full before count (mappings_at held (pages_from space first (from - first))) after told so_far full (mappings_at held rest))
      by (inr h) =
          let same : from ≡ first = start h.1 in
          let many : from - first ≡ pages - first = omega (arith, same, h.1) in
          subst (λ n. WritesBehind before count (mappings_at held (pages_from space first n)) after told) many so_far

-- ---- the spaces behind

module _ (held : Place → Option Held) (pages space page : ℕ) (before : List MappingReply) (count : ℕ) where
  -- only the rest of the space
  pub spaces_start : (after : List MappingReply) (told : ℕ) → WritesBehind before count (mappings_at held (pages_from space page (pages - page))) after told
      → WritesBehind before count (mappings_at held (places_to pages space page (space + 1))) after told
  spaces_start after told first =
      let none : space + 1 - (space + 1) ≡ 0 = omega arith in
      let all = ap (λ n. pages_from space page (pages - page) ++ spaces_from pages (space + 1) n) none ∙ append-nil (pages_from space page (pages - page)) in
      subst (λ l. WritesBehind before count (mappings_at held l) after told) (sym all) first

  -- one space more
  pub spaces_next : (next : ℕ) → space + 1 ≤ next → (after : List MappingReply) (told : ℕ) → WritesBehind before count (mappings_at held (places_to pages space page next)) after told
      → (last : List MappingReply) (end : ℕ) → WritesBehind after told (mappings_at held (pages_from next 0 (pages - 0))) last end
      → WritesBehind before count (mappings_at held (places_to pages space page (next + 1))) last end
  spaces_next next from after told so_far last end one =
      let here = pages_from space page (pages - page) in
      let others = next - (space + 1) in
      let many : next + 1 - (space + 1) ≡ others + 1 = omega (arith, from) in
      let which : space + 1 + others ≡ next = omega (arith, from) in
      let whole : pages ≡ pages - 0 = omega arith in
      let split =
      ap (λ n. here ++ spaces_from pages (space + 1) n) many ∙ ap (λ l. here ++ l) (spaces_more pages (space + 1) others)
      ∙ sym (append_assoc here (spaces_from pages (space + 1) others) (pages_from (space + 1 + others) 0 pages))
      ∙ (λ j. places_to pages space page next ++ pages_from (which j) 0 (whole j)) in
      let parts = ap (mappings_at held) split ∙ mappings_and held (places_to pages space page next) (pages_from next 0 (pages - 0)) in
      subst (λ l. WritesBehind before count l last end) (sym parts)
      (writes_both before count (mappings_at held (places_to pages space page next)) after told so_far (mappings_at held (pages_from next 0 (pages - 0))) last end one)

-- ---- all that a listing asks for

-- it ends behind the space where it begins
pub ends_behind : (l : Listing) (spaces : ℕ) → (first_of l).space < spaces → (first_of l).space + 1 ≤ end_of l spaces
ends_behind (From first) spaces there = omega (arith, there)
ends_behind (OfSpace first) spaces there = omega arith
ends_behind (Below above first) spaces there = omega (arith, there)

module _ (limits : Limits) (h : Holdings) (is : h ≡ listing limits (at h)) where
  abbrev everywhere : List Place
  everywhere = spaces_from (pages_of limits.bits) 0 limits.spaces

  -- those of a set at or behind a page
  pub behind : (also : PlaceSet) (space page : ℕ) → map mapping_told (filter (λ e. from_page space page e.0 && also e.0) h) ≡ mappings_at (λ p. if also p then at h p else None) (filter (from_page space page) everywhere)
  unfolding listing
  behind also space page = ap (λ k. map mapping_told (filter (λ e. from_page space page e.0 && also e.0) k)) is ∙ ap (map mapping_told) (listed_chosen (from_page space page) also (at h) everywhere)

  within_space : (space page : ℕ) → map mapping_told (filter (λ e. in_space_from space page e.0) h) ≡ mappings_at (at h) (filter (in_space_from space page) everywhere)
  unfolding listing
  within_space space page =
      (λ i. map mapping_told (filter (λ e. sym (and-true (in_space_from space page e.0)) i) h))
      ∙ ap (λ k. map mapping_told (filter (λ e. in_space_from space page e.0 && true) k)) is ∙ ap (map mapping_told) (listed_chosen (in_space_from space page) (λ p. true) (at h) everywhere)

  -- from a page of a space that there is
  pub found_behind : (l : Listing) → (first_of l).space < limits.spaces → mappings_of l h ≡ mappings_at (chosen l h) (places_to (pages_of limits.bits) (first_of l).space (first_of l).page (end_of l limits.spaces))
  found_behind (From first) there =
      (λ i. map mapping_told (filter (λ e. sym (and-true (from_page first.space first.page e.0)) i) h)) ∙ behind (λ p. true) first.space first.page
      ∙ ap (mappings_at (at h)) (places_behind first.space first.page (pages_of limits.bits) limits.spaces there)
  found_behind (OfSpace first) there =
      let m = pages_of limits.bits in
      let none : first.space + 1 - (first.space + 1) ≡ 0 = omega arith in
      let last = ap (λ n. pages_from first.space first.page (m - first.page) ++ spaces_from m (first.space + 1) n) none ∙ append-nil (pages_from first.space first.page (m - first.page)) in
      within_space first.space first.page ∙ ap (mappings_at (at h)) (places_in first.space first.page m limits.spaces there ∙ sym last)
  found_behind (Below above first) there =
      behind (is_below h (only above)) first.space first.page ∙ ap (mappings_at (chosen (Below above first) h)) (places_behind first.space first.page (pages_of limits.bits) limits.spaces there)

  -- from one of a space that there is not
  pub none_found : (l : Listing) → limits.spaces ≤ (first_of l).space → mappings_of l h ≡ []
  none_found (From first) past =
      (λ i. map mapping_told (filter (λ e. sym (and-true (from_page first.space first.page e.0)) i) h)) ∙ behind (λ p. true) first.space first.page
      ∙ ap (mappings_at (at h)) (none_behind first.space first.page (pages_of limits.bits) limits.spaces past)
  none_found (OfSpace first) past = within_space first.space first.page ∙ ap (mappings_at (at h)) (none_in first.space first.page (pages_of limits.bits) limits.spaces past)
  none_found (Below above first) past =
      behind (is_below h (only above)) first.space first.page ∙ ap (mappings_at (chosen (Below above first) h)) (none_behind first.space first.page (pages_of limits.bits) limits.spaces past)
