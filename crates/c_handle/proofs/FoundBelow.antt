-- The mappings below a page, one after another.
use Rattle.std.proofs.Common.{◌≡◌, ℕ, suc, ◌+◌, ◌-◌, ◌<◌, true, false, Bool, nat_lt, nat_le, ◌==◌, ◌&&◌, ◌||◌, cond, if◌then◌else◌, List, [], ◌∷◌, ◌++◌, map, filter, length, Option, Some, None, refl, sym, ap, ◌∙◌, arith}
use Rattle.std.proofs.lemmas.Bool.Decides.{nat_tests}
use Rattle.std.specs.Prelude.{is_some}
use Rattle.space.specs.declared.place.Place.{Place}
use Rattle.model.specs.Definitions.Holdings.{Held, Holdings, at, keep}
use Rattle.mapdb.specs.Held.{from_page, held_below, listed, pages_from, spaces_from, IsNextBelow}
use Rattle.c_handle.specs.Listed.{mapping_told, mappings_at}
use Rattle.c_handle.specs.declared.mappings.MappingReply.{MappingReply}
use Rattle.c_handle.proofs.Listings.{places_behind}

-- what is behind a place behind another is behind that
through : (s p t q u r : ℕ) → (nat_lt s t || ((t == s) && nat_le p q)) ≡ true → (nat_lt t u || ((u == t) && nat_le q r)) ≡ true → (nat_lt s u || ((u == s) && nat_le p r)) ≡ true
through s p t q u r one two = grind (arith, nat_tests, one, two)

module _ (held : Place → Option Held) (m n : ℕ) where
  -- the mappings at or behind a page
  abbrev pub rest : ℕ → ℕ → List MappingReply
  rest space page = mappings_at held (filter (from_page space page) (spaces_from m 0 n))

  -- where nothing is held there are none
  pub rest_none : (space page : ℕ) → ((q : Place) → from_page space page q ≡ true → held q ≡ None) → rest space page ≡ []
  rest_none space page none = ap (map mapping_told) (nothing (spaces_from m 0 n))
    where
      nothing : (ps : List Place) → listed held (filter (from_page space page) ps) ≡ []
      nothing [] = refl
      nothing (q ∷ ps) = by (from_page space page q) refl (nothing ps)
        where
          others : List Place
          others = filter (from_page space page) ps

          by : (b : Bool) → from_page space page q ≡ b → listed held others ≡ [] → listed held (cond b (q ∷ others) others) ≡ []
          by true is rest = ap (λ o. keep q o (listed held others)) (none q is) ∙ rest
          by false is rest = rest

  module _ (space page : ℕ) (q : Place) (behind : from_page space page q ≡ true) (before : (x : Place) → from_page space page x ≡ true → from_page q.space q.page x ≡ false → held x ≡ None) where
    -- up to the next one there are none
    same : (ps : List Place) → listed held (filter (from_page space page) ps) ≡ listed held (filter (from_page q.space q.page) ps)
    same [] = refl
    same (x ∷ ps) = by (from_page space page x) refl (from_page q.space q.page x) refl (same ps)
      where
        all : List Place
        all = filter (from_page space page) ps

        later : List Place
        later = filter (from_page q.space q.page) ps

        by : (b : Bool) → from_page space page x ≡ b → (c : Bool) → from_page q.space q.page x ≡ c → listed held all ≡ listed held later
            → listed held (cond b (x ∷ all) all) ≡ listed held (cond c (x ∷ later) later)
        by true is true too rest = ap (keep x (held x)) rest
        by true is false not_yet rest = ap (λ o. keep x o (listed held all)) (before x is not_yet) ∙ rest
        by false is true too rest = absurd (cc (is, through space page q.space q.page x.space x.page behind too))
        by false is false not_yet rest = rest

    -- the next one, and those behind it
    pub rest_next : q.space < n → q.page < m → rest space page ≡ mappings_at held (q ∷ []) ++ rest q.space (q.page + 1)
    rest_next in_spaces in_pages =
        let others = spaces_from m (q.space + 1) (n - (q.space + 1)) in
        let more : m - q.page ≡ suc (m - (q.page + 1)) = omega (arith, in_pages) in
        let split = places_behind q.space q.page m n in_spaces ∙ ap (λ k. pages_from q.space q.page k ++ others) more ∙ ap (λ ps. q ∷ ps) (sym (places_behind q.space (q.page + 1) m n in_spaces)) in
        ap (map mapping_told) (same (spaces_from m 0 n) ∙ ap (listed held) split) ∙ one (held q)
      where
        behind_it : List Place
        behind_it = filter (from_page q.space (q.page + 1)) (spaces_from m 0 n)

        one : (o : Option Held) → map mapping_told (keep q o (listed held behind_it)) ≡ map mapping_told (keep q o []) ++ map mapping_told (listed held behind_it)
        one None = refl
        one (Some h) = refl

-- a page that is held, and is below another
pub one_below : (h : Holdings) (above from q : Place) → IsNextBelow h above from q → length (mappings_at (held_below h above) (q ∷ [])) ≡ 1
one_below h above from q next = by (held_below h above q) (ap (λ b. is_some (if b then at h q else None)) next.below ∙ next.held)
  where
    by : (o : Option Held) → is_some o ≡ true → length (map mapping_told (keep q o [])) ≡ 1
    by None is = absurd (cc is)
    by (Some x) is = refl
