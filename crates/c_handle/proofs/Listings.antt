-- The mappings at or behind a page are those of the rest of its space and of the spaces behind it.
use Rattle.std.proofs.Common.{◌≡◌, ◌⊎◌, inl, inr, ℕ, zero, suc, ◌+◌, ◌-◌, ◌<◌, ◌≤◌, nat_le, ◌==◌, ◌&&◌, ◌||◌, Bool, true, false, cond, if◌then◌else◌, List, [], ◌∷◌, ◌++◌, filter, Option, Some, None, refl, sym, ap, ◌∙◌, arith, append_assoc, append-nil, eq-or-lt_of_le}
use Rattle.std.proofs.lemmas.Bool.{lt-ltb, le-ltb, le-leb, lt-leb, eq-eqb, ne_eqb}
use Rattle.std.proofs.lemmas.List.Elements.{filter-append}
use Rattle.space.specs.declared.place.Place.{Place}
use Rattle.model.specs.Definitions.Holdings.{Held, Holdings, PlaceSet, keep}
use Rattle.mapdb.specs.Held.{from_page, pages_from, spaces_from, listed}
use Rattle.c_handle.specs.Listed.{in_space_from}

abbrev place : ℕ → ℕ → Place
place x i = record { space = x; page = i }

-- ---- one more page, one more space

pub pages_and : (x a k n : ℕ) → pages_from x a (k + n) ≡ pages_from x a k ++ pages_from x (a + k) n
pages_and x a zero n =
    let first : a ≡ a + 0 = omega arith in
    let many : 0 + n ≡ n = omega arith in
    (λ i. pages_from x (first i) (many i))
pages_and x a (suc k) n =
    let more : suc k + n ≡ suc (k + n) = omega arith in
    let next : a + 1 + k ≡ a + suc k = omega arith in
    ap (pages_from x a) more ∙ ap (λ l. place x a ∷ l) (pages_and x (a + 1) k n ∙ ap (λ i. pages_from x (a + 1) k ++ pages_from x i n) next)

pub pages_more : (x a n : ℕ) → pages_from x a (n + 1) ≡ pages_from x a n ++ (place x (a + n) ∷ [])
pages_more x a n = pages_and x a n 1

pub spaces_and : (m x k n : ℕ) → spaces_from m x (k + n) ≡ spaces_from m x k ++ spaces_from m (x + k) n
spaces_and m x zero n =
    let first : x ≡ x + 0 = omega arith in
    let many : 0 + n ≡ n = omega arith in
    (λ i. spaces_from m (first i) (many i))
spaces_and m x (suc k) n =
    let more : suc k + n ≡ suc (k + n) = omega arith in
    let next : x + 1 + k ≡ x + suc k = omega arith in
    ap (spaces_from m x) more ∙ ap (λ l. pages_from x 0 m ++ l) (spaces_and m (x + 1) k n ∙ ap (λ y. spaces_from m (x + 1) k ++ spaces_from m y n) next)
    ∙ sym (append_assoc (pages_from x 0 m) (spaces_from m (x + 1) k) (spaces_from m (x + suc k) n))

pub spaces_more : (m x k : ℕ) → spaces_from m x (k + 1) ≡ spaces_from m x k ++ pages_from (x + k) 0 m
spaces_more m x k = spaces_and m x k 1 ∙ ap (λ l. spaces_from m x k ++ l) (append-nil (pages_from (x + k) 0 m))

-- ---- what is held at places in two parts

keep_and : (p : Place) (m : Option Held) (h k : Holdings) → keep p m (h ++ k) ≡ keep p m h ++ k
keep_and p None h k = refl
keep_and p (Some m) h k = refl

pub listed_and : (held : Place → Option Held) (ps qs : List Place) → listed held (ps ++ qs) ≡ listed held ps ++ listed held qs
listed_and held [] qs = refl
listed_and held (p ∷ ps) qs = ap (keep p (held p)) (listed_and held ps qs) ∙ keep_and p (held p) (listed held ps) (listed held qs)

-- what is held at the places of a set that are in another one too
pub listed_chosen : (set also : PlaceSet) (held : Place → Option Held) (ps : List Place)
    → filter (λ e. set e.0 && also e.0) (listed held ps) ≡ listed (λ p. if also p then held p else None) (filter set ps)
listed_chosen set also held [] = refl
listed_chosen set also held (p ∷ ps) = by (held p) refl (set p) refl (also p) refl (listed_chosen set also held ps)
  where
    wanted : Place → Option Held
    wanted q = if also q then held q else None

    among : Holdings
    among = filter (λ e. set e.0 && also e.0) (listed held ps)

    others : Holdings
    others = listed wanted (filter set ps)

    nothing : (c : Bool) (m : Option Held) → None ≡ m → None ≡ (if c then m else None)
    nothing true m is = is
    nothing false m is = refl

    by : (m : Option Held) → held p ≡ m → (b : Bool) → set p ≡ b → (c : Bool) → also p ≡ c → among ≡ others
        → filter (λ e. set e.0 && also e.0) (keep p m (listed held ps)) ≡ listed wanted (cond b (p ∷ filter set ps) (filter set ps))
    by None is true one c two rest = rest ∙ ap (λ m. keep p m others) (nothing (also p) (held p) (sym is))
    by None is false one c two rest = rest
    by (Some m) is true one true two rest =
        (λ i. cond (one i && two i) ((p, m) ∷ among) among) ∙ ap (λ l. (p, m) ∷ l) rest ∙ (λ i. keep p (if sym two i then sym is i else None) others)
    by (Some m) is true one false two rest =
        (λ i. cond (one i && two i) ((p, m) ∷ among) among) ∙ rest ∙ (λ i. keep p (if sym two i then held p else None) others)
    by (Some m) is false one c two rest = (λ i. cond (one i && also p) ((p, m) ∷ among) among) ∙ rest

-- ---- the places of a set

module _ (set : PlaceSet) (x : ℕ) where
  pages_all : (a n : ℕ) → ((i : ℕ) → a ≤ i → set (place x i) ≡ true) → filter set (pages_from x a n) ≡ pages_from x a n
  pages_all a zero is = refl
  pages_all a (suc n) is =
      let rest = pages_from x (a + 1) n in
      ap (λ b. cond b (place x a ∷ filter set rest) (filter set rest)) (is a (omega arith)) ∙ ap (λ l. place x a ∷ l) (pages_all (a + 1) n (λ i h. is i (omega (arith, h))))

  pages_none : (a n : ℕ) → ((i : ℕ) → set (place x i) ≡ false) → filter set (pages_from x a n) ≡ []
  pages_none a zero is_not = refl
  pages_none a (suc n) is_not =
      let rest = pages_from x (a + 1) n in
      ap (λ b. cond b (place x a ∷ filter set rest) (filter set rest)) (is_not a) ∙ pages_none (a + 1) n is_not

  pages_behind : (p : ℕ) → ((i : ℕ) → p ≤ i → set (place x i) ≡ true) → ((i : ℕ) → i < p → set (place x i) ≡ false) → (a n : ℕ) → a ≤ p → filter set (pages_from x a n) ≡ pages_from x p ((a + n) - p)
  pages_behind p is is_not a zero below = let none : (a + 0) - p ≡ 0 = omega (arith, below) in ap (pages_from x p) (sym none)
  pages_behind p is is_not a (suc n) below = by (eq-or-lt_of_le below) (λ h. pages_behind p is is_not (a + 1) n h)
    where
      rest : List Place
      rest = pages_from x (a + 1) n

      by : (a ≡ p) ⊎ (a < p) → (a + 1 ≤ p → filter set rest ≡ pages_from x p ((a + 1 + n) - p)) → filter set (pages_from x a (suc n)) ≡ pages_from x p ((a + suc n) - p)
      by (inl same) others =
          let many : suc n ≡ (a + suc n) - p = omega (arith, same) in
          pages_all a (suc n) (λ i h. is i (omega (arith, h, same))) ∙ (λ i. pages_from x (same i) (many i))
      by (inr less) others =
          let many : (a + 1 + n) - p ≡ (a + suc n) - p = omega arith in
          ap (λ b. cond b (place x a ∷ filter set rest) (filter set rest)) (is_not a less) ∙ others (omega (arith, less)) ∙ ap (pages_from x p) many

spaces_all : (set : PlaceSet) (m x k : ℕ) → ((y i : ℕ) → x ≤ y → set (place y i) ≡ true) → filter set (spaces_from m x k) ≡ spaces_from m x k
spaces_all set m x zero is = refl
spaces_all set m x (suc k) is =
    filter-append set (pages_from x 0 m) (spaces_from m (x + 1) k)
    ∙ (λ j. pages_all set x 0 m (λ i h. is x i (omega arith)) j ++ spaces_all set m (x + 1) k (λ y i h. is y i (omega (arith, h))) j)

spaces_none : (set : PlaceSet) (m x k : ℕ) → ((y i : ℕ) → x ≤ y → y < x + k → set (place y i) ≡ false) → filter set (spaces_from m x k) ≡ []
spaces_none set m x zero is_not = refl
spaces_none set m x (suc k) is_not =
    filter-append set (pages_from x 0 m) (spaces_from m (x + 1) k)
    ∙ (λ j. pages_none set x 0 m (λ i. is_not x i (omega arith) (omega arith)) j ++ spaces_none set m (x + 1) k (λ y i from h. is_not y i (omega (arith, from)) (omega (arith, h))) j)

-- ---- the places at or behind a page

module _ (space page : ℕ) where
  behind_space : (y i : ℕ) → space < y → from_page space page (place y i) ≡ true
  behind_space y i h = ap (λ b. b || ((y == space) && nat_le page i)) (lt-ltb space y h)

  before_space : (y i : ℕ) → y < space → from_page space page (place y i) ≡ false
  before_space y i h = (λ j. le-ltb space y (omega (arith, h)) j || (ne_eqb y space (λ e. omega (arith, e, h)) j && nat_le page i))

  behind_page : (i : ℕ) → page ≤ i → from_page space page (place space i) ≡ true
  behind_page i h = (λ j. le-ltb space space (omega arith) j || (eq-eqb space space refl j && le-leb page i h j))

  before_page : (i : ℕ) → i < page → from_page space page (place space i) ≡ false
  before_page i h = (λ j. le-ltb space space (omega arith) j || (eq-eqb space space refl j && lt-leb page i h j))

  -- of a space that there is
  pub places_behind : (m spaces : ℕ) → space < spaces → filter (from_page space page) (spaces_from m 0 spaces) ≡ pages_from space page (m - page) ++ spaces_from m (space + 1) (spaces - (space + 1))
  places_behind m spaces there =
      let set = from_page space page in
      let others = spaces - (space + 1) in
      let split : spaces ≡ space + suc others = omega (arith, there) in
      let first : 0 + space ≡ space = omega arith in
      let here = pages_behind set space page behind_page before_page 0 m (omega arith) in
      let rest = spaces_all set m (space + 1) others (λ y i h. behind_space y i (omega (arith, h))) in
      let front = spaces_none set m 0 space (λ y i from h. before_space y i (omega (arith, h))) in
      let more : (0 + m) - page ≡ m - page = omega arith in
      ap (λ n. filter set (spaces_from m 0 n)) split ∙ ap (filter set) (spaces_and m 0 space (suc others) ∙ ap (λ y. spaces_from m 0 space ++ spaces_from m y (suc others)) first)
      ∙ filter-append set (spaces_from m 0 space) (spaces_from m space (suc others))
      ∙ ap (λ l. l ++ filter set (spaces_from m space (suc others))) front
      ∙ filter-append set (pages_from space 0 m) (spaces_from m (space + 1) others)
      ∙ (λ j. (here ∙ ap (pages_from space page) more) j ++ rest j)

  -- of one that there is not
  pub none_behind : (m spaces : ℕ) → spaces ≤ space → filter (from_page space page) (spaces_from m 0 spaces) ≡ []
  none_behind m spaces past = spaces_none (from_page space page) m 0 spaces (λ y i from h. before_space y i (omega (arith, h, past)))

-- ---- those of one space

module _ (space page : ℕ) where
  other_space : (y i : ℕ) → (y ≡ space → ⊥) → in_space_from space page (place y i) ≡ false
  other_space y i differ = ap (λ b. b && nat_le page i) (ne_eqb y space differ)

  pub places_in : (m spaces : ℕ) → space < spaces → filter (in_space_from space page) (spaces_from m 0 spaces) ≡ pages_from space page (m - page)
  places_in m spaces there =
      let set = in_space_from space page in
      let others = spaces - (space + 1) in
      let split : spaces ≡ space + suc others = omega (arith, there) in
      let first : 0 + space ≡ space = omega arith in
      let more : (0 + m) - page ≡ m - page = omega arith in
      let here =
      pages_behind set space page (λ i h. (λ j. eq-eqb space space refl j && le-leb page i h j)) (λ i h. (λ j. eq-eqb space space refl j && lt-leb page i h j)) 0 m (omega arith)
      ∙ ap (pages_from space page) more in
      let front = spaces_none set m 0 space (λ y i from h. other_space y i (λ e. omega (arith, e, h))) in
      let rest = spaces_none set m (space + 1) others (λ y i from h. other_space y i (λ e. omega (arith, e, from))) in
      ap (λ n. filter set (spaces_from m 0 n)) split ∙ ap (filter set) (spaces_and m 0 space (suc others) ∙ ap (λ y. spaces_from m 0 space ++ spaces_from m y (suc others)) first)
      ∙ filter-append set (spaces_from m 0 space) (spaces_from m space (suc others))
      ∙ ap (λ l. l ++ filter set (spaces_from m space (suc others))) front
      ∙ filter-append set (pages_from space 0 m) (spaces_from m (space + 1) others)
      ∙ (λ j. here j ++ rest j) ∙ append-nil (pages_from space page (m - page))

  pub none_in : (m spaces : ℕ) → spaces ≤ space → filter (in_space_from space page) (spaces_from m 0 spaces) ≡ []
  none_in m spaces past = spaces_none (in_space_from space page) m 0 spaces (λ y i from h. other_space y i (λ e. omega (arith, e, h, past)))
