-- Links of some trees of all, which are counted from the first of these.
use Rattle.std.proofs.Common.{◌≡◌, ℕ, zero, suc, ◌+◌, ◌-◌, ◌<◌, ◌≤◌, true, false, Bool, ◌||◌, ◌&&◌, ◌==◌, not, nat_lt, List, [], ◌∷◌, ◌++◌, length, get_or, Some, refl, sym, ap, ◌∙◌, subst, arith, ◌⊎◌, inl, inr, if◌then◌else◌, cond, IsFalse, append_assoc, MutBor, Result, Ok}
use Rattle.std.specs.Prelude.{count_by}
use Rattle.std.specs.List.{All}
use Rattle.std.specs.Option.{option_map_or}
use Rattle.std.proofs.lemmas.Bool.{eq-eqb, eqb-true, ne_eqb, ltb-true, ltb-false, lt-ltb, le-ltb}
use Rattle.std.proofs.lemmas.Option.{slice_get_past}
use Rattle.std.proofs.lemmas.List.{length-append}
use Rattle.std.proofs.lemmas.List.Sums.{sum_by-cons}
use Rattle.std.proofs.lemmas.List.Elements.{All-nil, All-cons, All-head, All-tail}
use Rattle.space.specs.declared.place.Place.{Place}
use Rattle.space.specs.Place.{same_place}
use Rattle.space.specs.declared.shards.Shards.{Shards}
use Rattle.space.specs.Shards.{IsPlace, is_taken}
use Rattle.crew.specs.Changes.{IsChanged, at_once, in_two}
use Rattle.maptree.specs.Origins.{Shape, origin_in}
use Rattle.holdings.specs.declared.link.Link.{Link}
use Rattle.holdings.specs.declared.transfer.Transfer.{Transfer}
use Rattle.holdings.specs.Inner.Derivation.{stands_in}
use Rattle.holdings.specs.Inner.Held.{links_in, is_listed}
use Rattle.holdings.specs.Inner.Links.{is_new_of, is_between, counted_from, links_between, links_of, AreLinked, AreLinkable, ArePut, CanBePut}

-- ---- numbers

pub same_number : (m n f : ℕ) → n ≤ m → (m - n == f) ≡ (m == n + f)
same_number m n f most = by (m - n == f) refl
  where
    by : (b : Bool) → (m - n == f) ≡ b → b ≡ (m == n + f)
    by true is = let same = eqb-true (m - n) f is in sym (eq-eqb m (n + f) (omega (arith, same, most)))
    by false is = sym (ne_eqb m (n + f) (λ same. cc (is, eq-eqb (m - n) f (omega (arith, same)))))

pub between_true : (start count : ℕ) (l : Link) → is_between start count l ≡ true → (start ≤ l.frame) × (l.frame < start + count)
between_true start count l is = by (nat_lt l.frame start) refl is
  where
    by : (b : Bool) → nat_lt l.frame start ≡ b → (not b && nat_lt l.frame (start + count)) ≡ true → (start ≤ l.frame) × (l.frame < start + count)
    by true low is = absurd (cc is)
    by false low is = (ltb-false l.frame start low, ltb-true l.frame (start + count) is)

pub between_from : (start count : ℕ) (l : Link) → start ≤ l.frame → l.frame < start + count → is_between start count l ≡ true
between_from start count l low high = rw (le-ltb l.frame start low, lt-ltb l.frame (start + count) high) refl

pub between_outside : (start count : ℕ) (l : Link) → (start ≤ l.frame → l.frame < start + count → ⊥) → is_between start count l ≡ false
between_outside start count l out = by (is_between start count l) refl
  where
    by : (b : Bool) → is_between start count l ≡ b → b ≡ false
    by true is = let in' = between_true start count l is in absurd (out in'.0 in'.1)
    by false is = refl

-- ---- the trees of a part

pub links_front : (xs ys : List Shape) (f : ℕ) → f < length xs → links_in (xs ++ ys) f ≡ links_in xs f
links_front [] ys f less = absurd (omega (arith, less))
links_front (x ∷ xs) ys zero less = refl
links_front (x ∷ xs) ys (suc f) less = links_front xs ys f (omega (arith, less))

pub links_behind : (xs ys : List Shape) (f : ℕ) → links_in (xs ++ ys) (length xs + f) ≡ links_in ys f
links_behind [] ys f = let at : 0 + f ≡ f = omega arith in ap (links_in ys) at
links_behind (x ∷ xs) ys f = let at : length (x ∷ xs) + f ≡ suc (length xs + f) = omega arith in ap (links_in (x ∷ (xs ++ ys))) at ∙ links_behind xs ys f

pub links_past : (xs : List Shape) (f : ℕ) → length xs ≤ f → links_in xs f ≡ []
links_past xs f past = ap (λ o. option_map_or (λ (t : Shape). t.links) o []) (slice_get_past xs f past)

-- ---- links of a part

module _ (start count : ℕ) where
  abbrev between : List Link → List Link
  between = links_between start count

  pub between_append : (ls ms : List Link) → between (ls ++ ms) ≡ between ls ++ between ms
  between_append [] ms = refl
  between_append (l ∷ ls) ms = by (is_between start count l) (between_append ls ms)
    where
      by : (b : Bool) → between (ls ++ ms) ≡ between ls ++ between ms
          → (if b then counted_from start l ∷ between (ls ++ ms) else between (ls ++ ms)) ≡ (if b then counted_from start l ∷ between ls else between ls) ++ between ms
      by true rest = ap (λ ks. counted_from start l ∷ ks) rest
      by false rest = rest

  pub new_between : (ls : List Link) (f : ℕ) (p : Place) → f < count → is_new_of (between ls) f p ≡ is_new_of ls (start + f) p
  new_between [] f p less = refl
  new_between (l ∷ ls) f p less = by (is_between start count l) refl (new_between ls f p less)
    where
      by : (b : Bool) → is_between start count l ≡ b → is_new_of (between ls) f p ≡ is_new_of ls (start + f) p
          → is_new_of (if b then counted_from start l ∷ between ls else between ls) f p ≡ ((l.frame == start + f && same_place p l.target) || is_new_of ls (start + f) p)
      by true is rest = λ i. (same_number l.frame start f (between_true start count l is).0 i && same_place p l.target) || rest i
      by false is rest =
          let apart : (l.frame == start + f) ≡ false = ne_eqb l.frame (start + f) (λ same. cc (is, between_from start count l (omega (arith, same)) (omega (arith, same, less)))) in
          rest ∙ ap (λ b. (b && same_place p l.target) || is_new_of ls (start + f) p) (sym apart)

  pub none_past : (ls : List Link) (f : ℕ) (p : Place) → count ≤ f → is_new_of (between ls) f p ≡ false
  none_past [] f p past = refl
  none_past (l ∷ ls) f p past = by (is_between start count l) refl (none_past ls f p past)
    where
      by : (b : Bool) → is_between start count l ≡ b → is_new_of (between ls) f p ≡ false → is_new_of (if b then counted_from start l ∷ between ls else between ls) f p ≡ false
      by true is rest =
          let in' = between_true start count l is in
          let apart : (l.frame - start == f) ≡ false = ne_eqb (l.frame - start) f (λ same. absurd (omega (arith, same, in'.0, in'.1, past))) in
          ap (λ b. (b && same_place p l.target) || is_new_of (between ls) f p) apart ∙ rest
      by false is rest = rest

  -- what holds of each
  pub each_between : (P : Link → Type 0) (ls : List Link) → All (λ l. is_between start count l ≡ true → P (counted_from start l)) ls → All P (between ls)
  each_between P [] all = All-nil P
  each_between P (l ∷ ls) all = by (is_between start count l) refl (each_between P ls (All-tail (λ l. is_between start count l ≡ true → P (counted_from start l)) l ls all))
    where
      here : is_between start count l ≡ true → P (counted_from start l)
      here = All-head (λ l. is_between start count l ≡ true → P (counted_from start l)) l ls all

      by : (b : Bool) → is_between start count l ≡ b → All P (between ls) → All P (if b then counted_from start l ∷ between ls else between ls)
      by true is rest = All-cons P (counted_from start l) (between ls) (here is) rest
      by false is rest = rest

  pub from_between : (P : Link → Type 0) (ls : List Link) → All P (between ls) → All (λ l. is_between start count l ≡ true → P (counted_from start l)) ls
  from_between P [] all = All-nil (λ l. is_between start count l ≡ true → P (counted_from start l))
  from_between P (l ∷ ls) all = by (is_between start count l) refl (from_between P ls) all
    where
      Q : Link → Type 0
      Q m = is_between start count m ≡ true → P (counted_from start m)

      by : (b : Bool) → is_between start count l ≡ b → (All P (between ls) → All Q ls) → All P (if b then counted_from start l ∷ between ls else between ls) → All Q (l ∷ ls)
      by true is rest all = All-cons Q l ls (λ i. All-head P (counted_from start l) (between ls) all) (rest (All-tail P (counted_from start l) (between ls) all))
      by false is rest all = All-cons Q l ls (λ yes. absurd (cc (is, yes))) (rest all)

  pub count_between : (q : Place) (ls : List Link) → count_by (λ l. same_place q l.target) (between ls) ≤ count_by (λ l. same_place q l.target) ls
  count_between q [] = omega arith
  count_between q (l ∷ ls) = by (is_between start count l) (count_between q ls)
    where
      counted : (m : Link) (ms : List Link) → count_by (λ l. same_place q l.target) (m ∷ ms) ≡ cond (same_place q m.target) 1 0 + count_by (λ l. same_place q l.target) ms
      counted m ms = sum_by-cons (λ x. cond (same_place q x.target) 1 0) m ms

      by : (b : Bool) → count_by (λ l. same_place q l.target) (between ls) ≤ count_by (λ l. same_place q l.target) ls
          → count_by (λ l. same_place q l.target) (if b then counted_from start l ∷ between ls else between ls) ≤ count_by (λ l. same_place q l.target) (l ∷ ls)
      by true less = let a = counted (counted_from start l) (between ls) in let b = counted l ls in omega (arith, a, b, less)
      by false less = let b = counted l ls in omega (arith, b, less)

-- all of them are among all trees
pub all_between : (ls : List Link) (count : ℕ) → All (λ l. l.frame < count) ls → links_between 0 count ls ≡ ls
all_between [] count all = refl
all_between (l ∷ ls) count all =
    let here = All-head (λ l. l.frame < count) l ls all in
    let is : is_between 0 count l ≡ true = between_from 0 count l (omega arith) (omega (arith, here)) in
    let at : l.frame - 0 ≡ l.frame = omega arith in
    ap (λ b. if b then counted_from 0 l ∷ links_between 0 count ls else links_between 0 count ls) is
    ∙ (λ i. record { frame = at i; source = l.source; target = l.target } ∷ all_between ls count (All-tail (λ l. l.frame < count) l ls all) i)

-- ---- a part of trees that links can be put into

module _ (front part behind : List Shape) (ls : List Link) where
  links_part : (f : ℕ) → f < length part → links_in (front ++ (part ++ behind)) (length front + f) ≡ links_in part f
  links_part f less = links_behind front (part ++ behind) f ∙ links_front part behind f less

  pub part_linkable : AreLinkable (front ++ (part ++ behind)) ls → AreLinkable part (links_between (length front) (length part) ls)
  part_linkable can = record {
    once = λ p. let few = count_between (length front) (length part) p ls in let one = can.once p in omega (arith, few, one);
    frames = each_between (length front) (length part) (λ l. l.frame < length part) ls (λ k d less is. let in' = between_true (length front) (length part) (get_or ls k d) is in omega (arith, in'.0, in'.1));
    sources = each_between (length front) (length part) (λ l. is_listed part l.frame l.source ≡ true) ls
        (λ k d less is.
        let l = get_or ls k d in
        let in' = between_true (length front) (length part) l is in
        let at : length front + (l.frame - length front) ≡ l.frame = omega (arith, in'.0) in
        let there = links_part (l.frame - length front) (omega (arith, in'.0, in'.1)) in
        ap (λ os. stands_in os l.source) (sym there) ∙ ap (λ f. is_listed (front ++ (part ++ behind)) f l.source) at ∙ can.sources k d less);
    targets = each_between (length front) (length part) (λ l. (f : ℕ) → is_listed part f l.target ≡ false) ls (λ k d less is f. absent f (get_or ls k d).target (λ g. can.targets k d less g) (nat_lt f (length part)) refl);
  }
    where
      absent : (f : ℕ) (p : Place) → ((g : ℕ) → is_listed (front ++ (part ++ behind)) g p ≡ false) → (b : Bool) → nat_lt f (length part) ≡ b → is_listed part f p ≡ false
      absent f p none true is = ap (λ os. stands_in os p) (sym (links_part f (ltb-true f (length part) is))) ∙ none (length front + f)
      absent f p none false is = ap (λ os. stands_in os p) (links_past part f (ltb-false f (length part) is))

-- ---- parts of trees that links were put into

module _ (start : ℕ) (ls : List Link) (front front' behind behind' : List Shape) (first : AreLinked (links_between start (length front) ls) front front')
    (second : AreLinked (links_between (start + length front) (length behind) ls) behind behind') where
  abbrev all : ℕ
  all = length (front ++ behind)

  lengths : all ≡ length front + length behind
  lengths = length-append front behind

  at_front : (f : ℕ) → f < length front → links_in (front' ++ behind') f ≡ links_in front' f
  at_front f less = links_front front' behind' f (omega (arith, less, first.count))

  at_behind : (f : ℕ) → length front ≤ f → links_in (front' ++ behind') f ≡ links_in behind' (f - length front)
  at_behind f low =
      let at : f ≡ length front' + (f - length front) = omega (arith, low, first.count) in
      ap (links_in (front' ++ behind')) at ∙ links_behind front' behind' (f - length front)

  was_behind : (f : ℕ) → length front ≤ f → links_in (front ++ behind) f ≡ links_in behind (f - length front)
  was_behind f low =
      let at : f ≡ length front + (f - length front) = omega (arith, low) in
      ap (links_in (front ++ behind)) at ∙ links_behind front behind (f - length front)

  -- what is new is what is new in its part
  new_front : (f : ℕ) (p : Place) → f < length front → is_new_of (links_between start all ls) f p ≡ is_new_of (links_between start (length front) ls) f p
  new_front f p less = new_between start all ls f p (omega (arith, less, lengths)) ∙ sym (new_between start (length front) ls f p less)

  new_behind : (f : ℕ) (p : Place) → length front ≤ f → f < all → is_new_of (links_between start all ls) f p ≡ is_new_of (links_between (start + length front) (length behind) ls) (f - length front) p
  new_behind f p low high =
      let at : start + f ≡ start + length front + (f - length front) = omega (arith, low) in
      new_between start all ls f p high ∙ ap (λ n. is_new_of ls n p) at ∙ sym (new_between (start + length front) (length behind) ls (f - length front) p (omega (arith, low, high, lengths)))

  new_past : (f : ℕ) (p : Place) → all ≤ f → is_new_of (links_between (start + length front) (length behind) ls) (f - length front) p ≡ false
  new_past f p past = none_past (start + length front) (length behind) ls (f - length front) p (omega (arith, past, lengths))

  where_is : (f : ℕ) → (f < length front) ⊎ ((length front ≤ f) × (f < all)) ⊎ (all ≤ f)
  where_is f = by (nat_lt f (length front)) refl (nat_lt f all) refl
    where
      by : (a : Bool) → nat_lt f (length front) ≡ a → (b : Bool) → nat_lt f all ≡ b → (f < length front) ⊎ ((length front ≤ f) × (f < all)) ⊎ (all ≤ f)
      by true low b is = inl (ltb-true f (length front) low)
      by false low true is = inr (inl (ltb-false f (length front) low, ltb-true f all is))
      by false low false is = inr (inr (ltb-false f all is))

  pub both_linked : AreLinked (links_between start all ls) (front ++ behind) (front' ++ behind')
  both_linked = record {
    count = length-append front' behind' ∙ omega (arith, first.count, second.count, lengths);
    stands = λ f p. stands_at f p (where_is f);
    elsewhere = λ f p none. stays_at f p none (where_is f);
    there = each_between start all (λ l. origin_in (links_in (front' ++ behind') l.frame) l.target ≡ Some l.source) ls (λ k d less is. there_at (get_or ls k d) (between_true start all (get_or ls k d) is)
        (λ i. from_between start (length front) (λ l. origin_in (links_in front' l.frame) l.target ≡ Some l.source) ls first.there k d less i)
        (λ i. from_between (start + length front) (length behind) (λ l. origin_in (links_in behind' l.frame) l.target ≡ Some l.source) ls second.there k d less i)
        (nat_lt (get_or ls k d).frame (start + length front)) refl);
  }
    where
      stands_at : (f : ℕ) (p : Place) → (f < length front) ⊎ ((length front ≤ f) × (f < all)) ⊎ (all ≤ f) → is_listed (front' ++ behind') f p ≡ (is_new_of (links_between start all ls) f p || is_listed (front ++ behind) f p)
      stands_at f p (inl less) =
          ap (λ os. stands_in os p) (at_front f less) ∙ first.stands f p
          ∙ (λ i. sym (new_front f p less) i || stands_in (sym (links_front front behind f less) i) p)
      stands_at f p (inr (inl at)) =
          ap (λ os. stands_in os p) (at_behind f at.0) ∙ second.stands (f - length front) p
          ∙ (λ i. sym (new_behind f p at.0 at.1) i || stands_in (sym (was_behind f at.0) i) p)
      stands_at f p (inr (inr past)) =
          let low : length front ≤ f = omega (arith, past, lengths) in
          ap (λ os. stands_in os p) (at_behind f low) ∙ second.stands (f - length front) p
          ∙ (λ i. (new_past f p past ∙ sym (none_past start all ls f p past)) i || stands_in (sym (was_behind f low) i) p)

      stays_at : (f : ℕ) (p : Place) → is_new_of (links_between start all ls) f p ≡ false → (f < length front) ⊎ ((length front ≤ f) × (f < all)) ⊎ (all ≤ f)
          → origin_in (links_in (front' ++ behind') f) p ≡ origin_in (links_in (front ++ behind) f) p
      stays_at f p none (inl less) =
          ap (λ os. origin_in os p) (at_front f less) ∙ first.elsewhere f p (sym (new_front f p less) ∙ none) ∙ ap (λ os. origin_in os p) (sym (links_front front behind f less))
      stays_at f p none (inr (inl at)) =
          ap (λ os. origin_in os p) (at_behind f at.0) ∙ second.elsewhere (f - length front) p (sym (new_behind f p at.0 at.1) ∙ none) ∙ ap (λ os. origin_in os p) (sym (was_behind f at.0))
      stays_at f p none (inr (inr past)) =
          let low : length front ≤ f = omega (arith, past, lengths) in
          ap (λ os. origin_in os p) (at_behind f low) ∙ second.elsewhere (f - length front) p (new_past f p past) ∙ ap (λ os. origin_in os p) (sym (was_behind f low))

      there_at : (l : Link) → (start ≤ l.frame) × (l.frame < start + all) → (is_between start (length front) l ≡ true → origin_in (links_in front' (l.frame - start)) l.target ≡ Some l.source)
          → (is_between (start + length front) (length behind) l ≡ true → origin_in (links_in behind' (l.frame - (start + length front))) l.target ≡ Some l.source)
          → (b : Bool) → nat_lt l.frame (start + length front) ≡ b → origin_in (links_in (front' ++ behind') (l.frame - start)) l.target ≡ Some l.source
      there_at l in' in_front in_behind true is =
          let less = ltb-true l.frame (start + length front) is in
          ap (λ os. origin_in os l.target) (at_front (l.frame - start) (omega (arith, less, in'.0))) ∙ in_front (between_from start (length front) l in'.0 less)
      there_at l in' in_front in_behind false is =
          let low = ltb-false l.frame (start + length front) is in
          let at : l.frame - start - length front ≡ l.frame - (start + length front) = omega arith in
          ap (λ os. origin_in os l.target) (at_behind (l.frame - start) (omega (arith, low)) ∙ ap (links_in behind') at) ∙ in_behind (between_from (start + length front) (length behind) l low (omega (arith, in'.1, lengths)))

-- ---- by parts

module _ (s : Shards) (ts : List Transfer) where
  -- no tree, no links
  pub part_can : (trees front behind part : List Shape) → front ++ part ++ behind ≡ trees → IsFalse (is_taken s) → All (λ t. IsPlace s t.source) ts → AreLinkable trees (links_of s ts) → (start : ℕ) → start ≡ length front → CanBePut s ts start part
  part_can trees front behind part are present places can start at = record {
    present = present;
    places = places;
    linkable =
        let same : trees ≡ front ++ (part ++ behind) = sym are ∙ append_assoc front part behind in
        subst (λ n. AreLinkable part (links_between n (length part) (links_of s ts))) (sym at) (part_linkable front part behind (links_of s ts) (subst (λ xs. AreLinkable xs (links_of s ts)) same can));
  }

  module _ {E : Type 0} (post : ℕ → MutBor (List Shape) → Result (Unit {0}) E → MutBor (List Shape) → Type 0)
      (put : (start : ℕ) (before after : MutBor (List Shape)) → post start before (Ok tt) after → ArePut s ts start before.now after.now) where
    pub by_parts : (start : ℕ) (xs ys : List Shape) → IsChanged post start xs ys → ArePut s ts start xs ys
    by_parts _ _ _ (at_once start before after call) = put start before after call
    by_parts _ _ _ (in_two start front front' behind behind' first second) =
        both_linked start (links_of s ts) front front' behind behind' (by_parts start front front' first) (by_parts (start + length front) behind behind' second)

    pub put_by_parts : (trees new : List Shape) → All (λ l. l.frame < length trees) (links_of s ts) → IsChanged post 0 trees new → AreLinked (links_of s ts) trees new
    put_by_parts trees new frames changed = subst (λ ls. AreLinked ls trees new) (all_between (links_of s ts) (length trees) frames) (by_parts 0 trees new changed)
