-- Those of some pages of a space that are held, shard by shard.
use Rattle.std.proofs.Common.{◌≡◌, ℕ, zero, suc, ◌+◌, ◌-◌, ◌<◌, ◌≤◌, true, false, Bool, ◌&&◌, ◌||◌, List, [], ◌∷◌, ◌++◌, filter, get_or, Option, Some, None, IsTrue, is_some, refl, sym, ap, ◌∙◌, subst, arith, ◌⊎◌, inl, inr, if◌then◌else◌}
use Rattle.std.specs.List.{All}
use Rattle.std.specs.Option.{option_map}
use Rattle.std.proofs.lemmas.List.{append_assoc}
use Rattle.std.proofs.lemmas.List.Elements.{All-nil, All-cons, All-head, All-tail, filter-append}
use Rattle.space.specs.declared.place.Place.{Place}
use Rattle.space.specs.declared.place.Entry.{Entry}
use Rattle.space.specs.declared.shards.Shards.{Shards}
use Rattle.space.specs.Directory.{pages_of}
use Rattle.space.specs.Place.{same_place}
use Rattle.space.specs.Shards.{entry_at}
use Rattle.space.proofs.Places.{same_self, same_or_apart}
use Rattle.maptree.specs.Origins.{Shape}
use Rattle.model.specs.Definitions.Calls.{Limits}
use Rattle.model.specs.Definitions.Holdings.{PlaceSet, is_held}
use Rattle.holdings.specs.Places.{IsWithin, any_of, pages_from}
use Rattle.holdings.specs.Inner.Held.{has_entry, held_of, limits_in, holdings_in}
use Rattle.holdings.proofs.Contents.Holders.{held_within}

-- ---- pages from a page on

-- what holds of each page
pub each_page : (P : Place → Type 0) (space page n : ℕ) → ((k : ℕ) → k < n → P (record { space = space; page = page + k })) → All P (pages_from space page n)
each_page P space page zero each = All-nil P
each_page P space page (suc n) each =
    All-cons P (record { space = space; page = page }) (pages_from space (page + 1) n)
    (subst (λ q. P (record { space = space; page = q })) (none_on page) (each 0 (omega arith)))
    (each_page P space (page + 1) n (λ k less. subst (λ q. P (record { space = space; page = q })) (one_on page k) (each (suc k) (omega (arith, less)))))
  where
    none_on : (a : ℕ) → a + 0 ≡ a
    none_on a = omega arith

    one_on : (a b : ℕ) → a + suc b ≡ a + 1 + b
    one_on a b = omega arith

-- they lie within the limits
pub pages_within : (limits : Limits) (space : ℕ) → space < limits.spaces → (page n : ℕ) → page + n ≤ pages_of limits.bits → All (IsWithin limits) (pages_from space page n)
pages_within limits space less page n most = each_page (IsWithin limits) space page n (λ k on. record { space = less; page = below page n k (pages_of limits.bits) most on })
  where
    below : (a b k c : ℕ) → a + b ≤ c → k < b → a + k < c
    below a b k c most on = omega (arith, most, on)

-- first some and then the others
pages_in_two : (space page m n : ℕ) → pages_from space page (m + n) ≡ pages_from space page m ++ pages_from space (page + m) n
pages_in_two space page zero n = (λ i. pages_from space (none_on page i) (none_more n i))
  where
    none_on : (a : ℕ) → a ≡ a + 0
    none_on a = omega arith

    none_more : (a : ℕ) → 0 + a ≡ a
    none_more a = omega arith
pages_in_two space page (suc m) n =
    ap (pages_from space page) (one_more m n)
    ∙ ap (λ ps. record { space = space; page = page } ∷ ps) (pages_in_two space (page + 1) m n)
    ∙ ap (λ q. record { space = space; page = page } ∷ (pages_from space (page + 1) m ++ pages_from space q n)) (one_on page m)
  where
    one_more : (a b : ℕ) → suc a + b ≡ suc (a + b)
    one_more a b = omega arith

    one_on : (a b : ℕ) → a + 1 + b ≡ a + suc b
    one_on a b = omega arith

-- ---- those that pass a test

-- where two tests agree at each of some places, they keep the same
filter_same : (f g : Place → Bool) (places : List Place) → All (λ p. f p ≡ g p) places → filter f places ≡ filter g places
filter_same f g [] same = refl
filter_same f g (p ∷ places) same =
    rw (All-head (λ q. f q ≡ g q) p places same) (ap (λ ps. if g p then p ∷ ps else ps) (filter_same f g places (All-tail (λ q. f q ≡ g q) p places same)))

-- where none passes, none is kept
filter_none : (f : Place → Bool) (places : List Place) → All (λ p. f p ≡ false) places → filter f places ≡ []
filter_none f [] none = refl
filter_none f (p ∷ places) none = rw (All-head (λ q. f q ≡ false) p places none) (filter_none f places (All-tail (λ q. f q ≡ false) p places none))

-- where each passes, each is kept
filter_every : (f : Place → Bool) (places : List Place) → All (λ p. f p ≡ true) places → filter f places ≡ places
filter_every f [] each = refl
filter_every f (p ∷ places) each = rw (All-head (λ q. f q ≡ true) p places each) (ap (λ ps. p ∷ ps) (filter_every f places (All-tail (λ q. f q ≡ true) p places each)))

-- the set of those that are kept
pub any_kept : (f : PlaceSet) (places : List Place) (p : Place) → any_of (filter f places) p ≡ (any_of places p && f p)
any_kept f [] p = refl
any_kept f (q ∷ places) p = by (f q) refl (any_kept f places p) (same_or_apart p q)
  where
    kept_here : (x y b : Bool) → x ≡ true → b ≡ true → (x || (y && b)) ≡ ((x || y) && b)
    kept_here x y b same is = grind (arith, same, is)

    gone_here : (x y b : Bool) → b ≡ false → (y && b) ≡ ((x || y) && b)
    gone_here x y b is = grind (arith, is)

    kept_apart : (x y b : Bool) → x ≡ false → (x || (y && b)) ≡ ((x || y) && b)
    kept_apart x y b apart = grind (arith, apart)

    gone_apart : (x y b : Bool) → x ≡ false → (y && b) ≡ ((x || y) && b)
    gone_apart x y b apart = grind (arith, apart)

    by : (b : Bool) → f q ≡ b → any_of (filter f places) p ≡ (any_of places p && f p) → (p ≡ q) ⊎ (same_place p q ≡ false)
        → any_of (if f q then q ∷ filter f places else filter f places) p ≡ ((same_place p q || any_of places p) && f p)
    by true is rest (inl same) = rw is (ap (λ b. same_place p q || b) rest ∙ kept_here (same_place p q) (any_of places p) (f p) (ap (λ x. same_place x q) same ∙ same_self q) (ap f same ∙ is))
    by true is rest (inr apart) = rw is (ap (λ b. same_place p q || b) rest ∙ kept_apart (same_place p q) (any_of places p) (f p) apart)
    by false is rest (inl same) = rw is (rest ∙ gone_here (same_place p q) (any_of places p) (f p) (ap f same ∙ is))
    by false is rest (inr apart) = rw is (rest ∙ gone_apart (same_place p q) (any_of places p) (f p) apart)

-- those from one page on, and then those from the next page on, are all of them
pub next_kept : (f : Place → Bool) (space page next end : ℕ) (front new all : List Place) → page ≤ next → next ≤ end → new ≡ front ++ filter f (pages_from space page (next - page))
    → front ++ filter f (pages_from space page (end - page)) ≡ all → new ++ filter f (pages_from space next (end - next)) ≡ all
next_kept f space page next end front new all first second is so_far =
    ap (λ ps. ps ++ filter f (pages_from space next (end - next))) is
    ∙ append_assoc front (filter f (pages_from space page (next - page))) (filter f (pages_from space next (end - next)))
    ∙ ap (λ ps. front ++ ps)
    (sym (filter-append f (pages_from space page (next - page)) (pages_from space next (end - next)))
    ∙ ap (filter f) (ap (λ q. pages_from space page (next - page) ++ pages_from space q (end - next)) (up page next first) ∙ sym (pages_in_two space page (next - page) (end - next))
    ∙ ap (pages_from space page) (both page next end first second)))
    ∙ so_far
  where
    up : (a b : ℕ) → a ≤ b → b ≡ a + (b - a)
    up a b less = omega (arith, less)

    both : (a b c : ℕ) → a ≤ b → b ≤ c → (b - a) + (c - b) ≡ c - a
    both a b c first second = omega (arith, first, second)

-- one page, and then those from the next page on
pub next_page : (space page end : ℕ) → page < end → pages_from space page (end - page) ≡ record { space = space; page = page } ∷ pages_from space (page + 1) (end - (page + 1))
next_page space page end less = ap (pages_from space page) (one page end less)
  where
    one : (a b : ℕ) → a < b → b - a ≡ suc (b - (a + 1))
    one a b less = omega (arith, less)

-- ---- those that are held

module _ (shards : Shards) (space page n : ℕ) where
  pub none_there : ((k : ℕ) → k < n → entry_at shards (record { space = space; page = page + k }) ≡ None) → filter (has_entry shards) (pages_from space page n) ≡ []
  none_there absent = filter_none (has_entry shards) (pages_from space page n) (each_page (λ p. has_entry shards p ≡ false) space page n (λ k on. ap is_some (absent k on)))

  pub all_there : ((k : ℕ) → k < n → IsTrue (has_entry shards (record { space = space; page = page + k }))) → filter (has_entry shards) (pages_from space page n) ≡ pages_from space page n
  all_there there = filter_every (has_entry shards) (pages_from space page n) (each_page (λ p. has_entry shards p ≡ true) space page n there)

module _ (shards : Shards) (trees : List Shape) (space page n : ℕ) (less : space < (limits_in shards trees).spaces) (most : page + n ≤ pages_of (limits_in shards trees).bits) where
  -- each that has an entry is held, and no other
  pub entries_held : filter (has_entry shards) (pages_from space page n) ≡ filter (is_held (holdings_in shards trees)) (pages_from space page n)
  entries_held = filter_same (has_entry shards) (is_held (holdings_in shards trees)) (pages_from space page n) (λ i d within. by (get_or (pages_from space page n) i d) (pages_within (limits_in shards trees) space less page n most i d within))
    where
      same : (p : Place) (o : Option Entry) → is_some o ≡ is_some (option_map (held_of trees p) o)
      same p None = refl
      same p (Some e) = refl

      by : (p : Place) → IsWithin (limits_in shards trees) p → has_entry shards p ≡ is_held (holdings_in shards trees) p
      by p within = same p (entry_at shards p) ∙ sym (ap is_some (held_within (limits_in shards trees) shards trees p within))

  -- where none has an entry, none is held
  pub none_held : ((k : ℕ) → k < n → entry_at shards (record { space = space; page = page + k }) ≡ None) → filter (is_held (holdings_in shards trees)) (pages_from space page n) ≡ []
  none_held absent = sym entries_held ∙ none_there shards space page n absent
