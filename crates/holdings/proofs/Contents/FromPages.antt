-- What is held of a space from a page on.
use Rattle.std.proofs.Common.{◌≡◌, ℕ, zero, suc, ◌+◌, ◌-◌, ◌<◌, ◌≤◌, nat_lt, Bool, true, false, ◌&&◌, if◌then◌else◌, List, [], ◌∷◌, ◌++◌, Option, Some, None, refl, sym, ap, ◌∙◌, arith}
use Rattle.space.specs.declared.place.Place.{Place}
use Rattle.model.specs.Definitions.Holdings.{Held, Holdings, keep}
use Rattle.model.specs.Definitions.Holdings.{at}
use Rattle.space.specs.Directory.{pages_of}
use Rattle.holdings.specs.Contents.{Contents, IsConsistent}
use Rattle.std.specs.Option.{option_map}
use Rattle.std.proofs.lemmas.Bool.{ltb-true}
use Rattle.space.specs.declared.shards.Shards.{Shards}
use Rattle.space.specs.Shards.{entry_at}
use Rattle.maptree.specs.Origins.{Shape}
use Rattle.model.specs.Definitions.Calls.{Limits}
use Rattle.holdings.specs.Mappings.{mapped_of, held_from}
use Rattle.holdings.specs.Inner.Held.{is_place, held_of, held_at, holdings_of}
use Rattle.holdings.specs.declared.mapping.Mapping.{Mapping}
use Rattle.holdings.proofs.Contents.Listing.{at_outside, at_listing}
use Rattle.holdings.specs.Places.{pages_from, spaces_from, listed, listing}

keep_append : (p : Place) (m : Option Held) (h g : Holdings) → keep p m h ++ g ≡ keep p m (h ++ g)
keep_append p None h g = refl
keep_append p (Some m) h g = refl

module _ (f : Place → Option Held) where
  -- what is held at places, and then at others
  pub listed_append : (ps qs : List Place) → listed f (ps ++ qs) ≡ listed f ps ++ listed f qs
  listed_append [] qs = refl
  listed_append (p ∷ ps) qs = ap (keep p (f p)) (listed_append ps qs) ∙ sym (keep_append p (f p) (listed f ps) (listed f qs))

  module _ (s : ℕ) where
    -- pages that hold nothing are passed over
    pub passed_over : (i n k : ℕ) → ((j : ℕ) → i ≤ j → j < i + k → f (record { space = s; page = j }) ≡ None) → listed f (pages_from s i n) ≡ listed f (pages_from s (i + k) (n - k))
    passed_over i n zero none =
        let page : i ≡ i + 0 = omega arith in
        let count : n ≡ n - 0 = omega arith in
        λ j. listed f (pages_from s (page j) (count j))
    passed_over i zero (suc k) none = let count : 0 ≡ 0 - suc k = omega arith in ap (λ m. listed f (pages_from s (i + suc k) m)) count
    passed_over i (suc n) (suc k) none =
        let page : i + 1 + k ≡ i + suc k = omega arith in
        let count : n - k ≡ suc n - suc k = omega arith in
        ap (λ m. keep (record { space = s; page = i }) m (listed f (pages_from s (i + 1) n))) (none i (omega arith) (omega arith))
        ∙ passed_over (i + 1) n k (λ j low high. none j (omega (arith, low)) (omega (arith, high)))
        ∙ (λ j. listed f (pages_from s (page j) (count j)))

    -- a page, and those behind it
    pub one_page : (i n : ℕ) (m : Option Held) → i < n → f (record { space = s; page = i }) ≡ m
        → listed f (pages_from s i (n - i)) ≡ keep (record { space = s; page = i }) m (listed f (pages_from s (i + 1) (n - (i + 1))))
    one_page i n m within is =
        let count : n - i ≡ suc (n - (i + 1)) = omega (arith, within) in
        ap (λ k. listed f (pages_from s i k)) count ∙ ap (λ o. keep (record { space = s; page = i }) o (listed f (pages_from s (i + 1) (n - (i + 1))))) is

    -- behind the last page there is none
    pub none_behind : (i n : ℕ) → n ≤ i → listed f (pages_from s i (n - i)) ≡ []
    none_behind i n past = let count : n - i ≡ 0 = omega (arith, past) in ap (λ k. listed f (pages_from s i k)) count

    -- where no page holds anything
    pub none_held : (i n : ℕ) → ((j : ℕ) → f (record { space = s; page = j }) ≡ None) → listed f (pages_from s i n) ≡ []
    none_held i n none =
        let count : n - n ≡ 0 = omega arith in
        passed_over i n n (λ j low high. none j) ∙ ap (λ k. listed f (pages_from s (i + n) k)) count

-- ---- space by space

-- what is held in spaces from one on
abbrev pub from_space : Contents → ℕ → Holdings
from_space c space = listed (at c.holdings) (spaces_from (pages_of c.limits.bits) space (c.limits.spaces - space))

module _ (c : Contents) where
  -- that of all spaces is all
  pub all_spaces : IsConsistent c → from_space c 0 ≡ c.holdings
  unfolding listing
  all_spaces consistent =
      let count : c.limits.spaces - 0 ≡ c.limits.spaces = omega arith in
      ap (λ n. listed (at c.holdings) (spaces_from (pages_of c.limits.bits) 0 n)) count ∙ sym consistent.listed

  -- that of a space, and of those behind it
  pub one_space : (s : ℕ) → s < c.limits.spaces → from_space c s ≡ held_from c s 0 ++ from_space c (s + 1)
  one_space s within =
      let pages = pages_of c.limits.bits in
      let count : c.limits.spaces - s ≡ suc (c.limits.spaces - (s + 1)) = omega (arith, within) in
      let whole : pages ≡ pages - 0 = omega arith in
      ap (λ n. listed (at c.holdings) (spaces_from pages s n)) count
      ∙ listed_append (at c.holdings) (pages_from s 0 pages) (spaces_from pages (s + 1) (c.limits.spaces - (s + 1)))
      ∙ ap (λ n. listed (at c.holdings) (pages_from s 0 n) ++ from_space c (s + 1)) whole

  -- behind the last space there is none
  pub no_space : (s : ℕ) → c.limits.spaces ≤ s → from_space c s ≡ []
  no_space s past = let count : c.limits.spaces - s ≡ 0 = omega (arith, past) in ap (λ n. listed (at c.holdings) (spaces_from (pages_of c.limits.bits) s n)) count

-- ---- page by page

module _ (c : Contents) (s : ℕ) (p : Place) (space : p.space ≡ s) where
  here : record { space = s; page = p.page } ≡ p
  here = λ i. record { space = sym space i; page = p.page }

  -- a page that holds something comes first
  pub found : (m : Mapping) → p.page < pages_of c.limits.bits → at c.holdings p ≡ Some (mapped_of m).1 → m.place ≡ p → held_from c s p.page ≡ mapped_of m ∷ held_from c s (m.place.page + 1)
  found m within held place =
      let h = (mapped_of m).1 in
      one_page (at c.holdings) s p.page (pages_of c.limits.bits) (Some h) within (ap (at c.holdings) here ∙ held)
      ∙ (λ i. ((here ∙ sym place) i, h) ∷ held_from c s ((sym place i).page + 1))

  -- where none from it on holds anything, there is none
  pub none_from : ((j : ℕ) → p.page ≤ j → j < pages_of c.limits.bits → at c.holdings (record { space = s; page = j }) ≡ None) → held_from c s p.page ≡ []
  none_from none =
      let pages = pages_of c.limits.bits in
      let nothing : pages - p.page - (pages - p.page) ≡ 0 = omega arith in
      passed_over (at c.holdings) s p.page (pages - p.page) (pages - p.page) (λ j low high. none j low (omega (arith, low, high)))
      ∙ ap (λ n. listed (at c.holdings) (pages_from s (p.page + (pages - p.page)) n)) nothing

  -- pages that hold nothing are passed over
  pub pages_passed : (to : ℕ) → p.page ≤ to → ((j : ℕ) → p.page ≤ j → j < to → at c.holdings (record { space = s; page = j }) ≡ None) → held_from c s p.page ≡ held_from c s to
  pages_passed to past none =
      let pages = pages_of c.limits.bits in
      let there : p.page + (to - p.page) ≡ to = omega (arith, past) in
      let count : pages - p.page - (to - p.page) ≡ pages - to = omega (arith, past) in
      passed_over (at c.holdings) s p.page (pages - p.page) (to - p.page) (λ j low high. none j low (omega (arith, low, high, past)))
      ∙ (λ i. listed (at c.holdings) (pages_from s (there i) (count i)))

-- no page of a space that there is not holds anything
pub outside_none : (c : Contents) → IsConsistent c → (s : ℕ) → c.limits.spaces ≤ s → (j : ℕ) → at c.holdings (record { space = s; page = j }) ≡ None
outside_none c consistent s past j =
    let p : Place = record { space = s; page = j } in
    ap (λ h. at h p) consistent.listed ∙ at_outside (at c.holdings) c.limits p (by (nat_lt s c.limits.spaces) refl)
  where
    by : (b : Bool) → nat_lt s c.limits.spaces ≡ b → (b && nat_lt j (pages_of c.limits.bits)) ≡ false
    by true is = let less = ltb-true s c.limits.spaces is in absurd (omega (arith, less, past))
    by false is = refl

-- a page whose word says nothing holds nothing, be it within the limits or not
pub absent_anywhere : (limits : Limits) (shards : Shards) (trees : List Shape) (p : Place) → entry_at shards p ≡ None → at (holdings_of limits shards trees) p ≡ None
absent_anywhere limits shards trees p absent = at_listing (held_at shards trees) limits p ∙ by (is_place limits p)
  where
    by : (b : Bool) → (if b then held_at shards trees p else None) ≡ None
    by true = ap (option_map (held_of trees p)) absent
    by false = refl
