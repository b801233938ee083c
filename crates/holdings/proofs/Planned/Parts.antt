-- The strips of the parts of one run, one after another.
use Rattle.std.proofs.Common.{◌≡◌, ℕ, zero, suc, ◌+◌, ◌-◌, ◌<◌, ◌≤◌, true, false, Bool, ◌&&◌, ◌||◌, not, List, [], ◌∷◌, ◌++◌, length, take, drop, map, Option, Some, None, get_or, refl, sym, ap, ◌∙◌, subst, arith, option_map}
use Rattle.std.specs.List.{All, list_all}
use Rattle.std.proofs.lemmas.Bool.{and_parts}
use Rattle.std.proofs.lemmas.List.{map-append, length-append, length-drop, length-map}
use Rattle.std.proofs.lemmas.List.Elements.{All-append}
use Rattle.std.proofs.lemmas.List.Folds.{list_any-append, list_all-append}
use Rattle.fpage.specs.declared.rights.Rights.{Rights}
use Rattle.space.specs.declared.place.Place.{Place}
use Rattle.space.specs.declared.shards.Shards.{Shards}
use Rattle.space.specs.Place.{same_place}
use Rattle.space.specs.Shards.{index_of}
use Rattle.holdings.specs.Inner.Words.{IsThere}
use Rattle.space.specs.declared.node.Node.{Node}
use Rattle.maptree.specs.Origins.{Origins}
use Rattle.maptree.proofs.Cuttings.{drop_drop, take_more}
use Rattle.pieces.specs.Contents.{StripContent, is_fold_apart}
use Rattle.pieces.specs.Distinct.{are_distinct, is_none_of}
use Rattle.pieces.specs.declared.piece.Piece.{Piece}
use Rattle.pieces.specs.declared.piece.Piece.TheVariants as piece
use Rattle.holdings.specs.Places.{any_of}
use Rattle.holdings.specs.Inner.Planning.{all_places, come_once, strip_of, strips_of_run}
use Rattle.holdings.specs.Inner.StripPlans.{HaveWords, IsRunAdded, pages_of}
use Rattle.holdings.proofs.Phases.StripPlans.{apart_index, distinct_indexes}

-- ---- places that come once

-- parts of a list in which no place comes twice
pub once_parts : (xs ys : List Place) → come_once (xs ++ ys) ≡ true → (come_once xs ≡ true) × (come_once ys ≡ true)
once_parts [] ys once = (refl, once)
once_parts (x ∷ xs) ys once =
    let parts = and_parts (list_all (λ q. not (same_place x q)) (xs ++ ys)) (come_once (xs ++ ys)) once in
    let rest = once_parts xs ys parts.1 in
    let first = and_parts (list_all (λ q. not (same_place x q)) xs) (list_all (λ q. not (same_place x q)) ys) (sym (list_all-append (λ q. not (same_place x q)) xs ys) ∙ parts.0) in
    (by _ _ first.0 rest.0, rest.1)
  where
    by : (a b : Bool) → a ≡ true → b ≡ true → (a && b) ≡ true
    by a b one two = grind (arith, one, two)

-- a place that is in none of two lists is in none of either
none_parts : (xs ys : List Place) (q : Place) → any_of (xs ++ ys) q ≡ false → (any_of xs q ≡ false) × (any_of ys q ≡ false)
none_parts xs ys q none = by (any_of xs q) (any_of ys q) (sym (list_any-append (same_place q) xs ys) ∙ none)
  where
    by : (a b : Bool) → (a || b) ≡ false → (a ≡ false) × (b ≡ false)
    by true b none = absurd (cc none)
    by false b none = (refl, none)

all_first : {A : Type 0} (P : A → Type 0) (xs ys : List A) → All P (xs ++ ys) → All P xs
all_first P [] ys all k d less = absurd (omega (arith, less))
all_first P (x ∷ xs) ys all zero d less = all 0 d (omega arith)
all_first P (x ∷ xs) ys all (suc k) d less = all_first P xs ys (λ j e l. all (suc j) e (omega (arith, l))) k d (omega (arith, less))

all_second : {A : Type 0} (P : A → Type 0) (xs ys : List A) → All P (xs ++ ys) → All P ys
all_second P [] ys all = all
all_second P (x ∷ xs) ys all = all_second P xs ys (λ j e l. all (suc j) e (omega (arith, l)))

-- ---- what is known of the words of one part

pub record HasWords (s : Shards) (origin : Option Place) (part : List Node) : Type 0 where
  pub places : All (λ n. IsThere s n.place) part
  pub distinct : are_distinct (map (λ n. index_of s n.place) part) ≡ true
  pub apart : is_fold_apart (option_map (index_of s) origin) (map (λ n. index_of s n.place) part) ≡ true

module _ (s : Shards) (origin : Option Place) (standing : (o : Place) → origin ≡ Some o → IsThere s o) where
  pub of_part : (part : List Node) → All (IsThere s) (map (λ n. n.place) part) → come_once (map (λ n. n.place) part) ≡ true
      → ((o : Place) → origin ≡ Some o → any_of (map (λ n. n.place) part) o ≡ false) → HasWords s origin part
  of_part part places once apart = record {
    places = each part places;
    distinct = ap are_distinct (indexes part) ∙ distinct_indexes s (map (λ n. n.place) part) places once;
    apart = by origin standing apart;
  }
    where
      each : (part : List Node) → All (IsThere s) (map (λ n. n.place) part) → All (λ n. IsThere s n.place) part
      each [] all k d less = absurd (omega (arith, less))
      each (n ∷ ns) all zero d less = all 0 n.place (omega arith)
      each (n ∷ ns) all (suc k) d less = each ns (λ j e l. all (suc j) e (omega (arith, l))) k d (omega (arith, less))

      indexes : (part : List Node) → map (λ n. index_of s n.place) part ≡ map (index_of s) (map (λ n. n.place) part)
      indexes [] = refl
      indexes (n ∷ ns) = ap (λ is. index_of s n.place ∷ is) (indexes ns)

      by : (o : Option Place) → ((q : Place) → o ≡ Some q → IsThere s q) → ((q : Place) → o ≡ Some q → any_of (map (λ n. n.place) part) q ≡ false) → is_fold_apart (option_map (index_of s) o) (map (λ n. index_of s n.place) part) ≡ true
      by None stands none = refl
      by (Some o) stands none = ap (λ is. is_none_of is (index_of s o)) (indexes part) ∙ apart_index s o (map (λ n. n.place) part) (stands o refl).place places (none o refl)

-- ---- the strips so far

pieces_assoc : {A : Type 0} (xs ys zs : List A) → (xs ++ ys) ++ zs ≡ xs ++ (ys ++ zs)
pieces_assoc [] ys zs = refl
pieces_assoc (x ∷ xs) ys zs = ap (λ ps. x ∷ ps) (pieces_assoc xs ys zs)

none_more : {A : Type 0} (xs : List A) → xs ++ [] ≡ xs
none_more [] = refl
none_more (x ∷ xs) = ap (λ ys. x ∷ ys) (none_more xs)

-- the pages up to a position, and those behind it
pub more_pages : (os : Origins) (a b c : ℕ) → a ≤ b → b ≤ c → pages_of os a c ≡ pages_of os a b ++ pages_of os b c
more_pages os a b c first second =
    let ps = map (λ o. o.0) os in
    let most : (c - a) - (b - a) ≡ c - b = omega (arith, first, second) in
    let at : a + (b - a) ≡ b = omega (arith, first) in
    take_more (b - a) (c - a) (drop a ps) (omega (arith, first, second))
    ∙ ap (λ qs. take (b - a) (drop a ps) ++ take ((c - a) - (b - a)) qs) (drop_drop a (b - a) ps ∙ ap (λ n. drop n ps) at)
    ∙ ap (λ n. take (b - a) (drop a ps) ++ take n (drop b ps)) most

-- there are none behind the end
pub no_pages : (os : Origins) (a b : ℕ) → b ≤ a → pages_of os a b ≡ []
no_pages os a b end = let none : b - a ≡ 0 = omega (arith, end) in ap (λ n. take n (drop a (map (λ o. o.0) os))) none

-- there are some before it
pub some_pages : (os : Origins) (a b : ℕ) → a < b → b ≤ length os → 0 < length (pages_of os a b)
some_pages os a b less within = some (drop a (map (λ o. o.0) os)) (b - a) (omega (arith, less)) (let l = length-drop a (map (λ o. o.0) os) in let count = length-map os (λ o. o.0) in omega (arith, l, count, less, within))
  where
    some : (ys : List Place) (n : ℕ) → 0 < n → 0 < length ys → 0 < length (take n ys)
    some [] n positive more = absurd (omega (arith, more))
    some (y ∷ ys) zero positive more = absurd (omega (arith, positive))
    some (y ∷ ys) (suc n) positive more = omega arith

-- whether the first node of the part with this number is spared
abbrev pub spares : Bool → ℕ → Bool
spares flush zero = not flush
spares flush (suc n) = false

all_more : (parts : List (List Node)) (part : List Node) → all_places (parts ++ part ∷ []) ≡ all_places parts ++ map (λ n. n.place) part
all_more [] part = none_more (map (λ n. n.place) part)
all_more (p ∷ parts) part = ap (λ ps. map (λ n. n.place) p ++ ps) (all_more parts part) ∙ sym (pieces_assoc (map (λ n. n.place) p) (all_places parts) (map (λ n. n.place) part))

module _ (s : Shards) (a : Rights) (flush : Bool) (origin : Option Place) where
  strips_more : (parts : List (List Node)) (part : List Node) → strips_of_run s a flush origin (parts ++ part ∷ []) ≡ strips_of_run s a flush origin parts ++ strip_of s (spares flush (length parts)) a origin part ∷ []
  strips_more [] part = refl
  strips_more (p ∷ parts) part = ap (λ ks. strip_of s (not flush) a origin p ∷ ks) (map-append (strip_of s false a origin) parts (part ∷ []))

  -- the strips of the parts so far were added; the parts and the pages to come are all pages of the run
  pub record IsAddedUpTo (ps rest : List Place) (old : List Piece) (spared : Bool) (now : List Piece) : Type 0 where
    pub parts : List (List Node)
    pub each : All (λ part. 0 < length part) parts
    pub places : all_places parts ++ rest ≡ ps
    pub first : spared ≡ spares flush (length parts)
    pub items : now ≡ old ++ map piece.Strip (strips_of_run s a flush origin parts)

  pub none_yet : (ps : List Place) (old : List Piece) → IsAddedUpTo ps ps old (not flush) old
  none_yet ps old = record { parts = []; each = λ k d less. absurd (omega (arith, less)); places = refl; first = refl; items = sym (none_more old) }

  pub one_more : (ps rest next : List Place) (old : List Piece) (spared : Bool) (now new : List Piece) → IsAddedUpTo ps rest old spared now → (part : List Node) → 0 < length part → rest ≡ map (λ n. n.place) part ++ next
      → (strip : StripContent) → strip ≡ strip_of s spared a origin part → new ≡ now ++ piece.Strip strip ∷ [] → IsAddedUpTo ps next old false new
  one_more ps rest next old spared now new so_far part some joined strip is pushed =
      let parts = so_far.parts in
      let strips = strips_of_run s a flush origin parts in
      record {
        parts = parts ++ part ∷ [];
        each = All-append (λ part. 0 < length part) parts (part ∷ []) so_far.each (λ k d less. one k d (omega (arith, less)));
        places = ap (λ qs. qs ++ next) (all_more parts part) ∙ pieces_assoc (all_places parts) (map (λ n. n.place) part) next ∙ ap (λ qs. all_places parts ++ qs) (sym joined) ∙ so_far.places;
        first = let l = length-append parts (part ∷ []) in later (length (parts ++ part ∷ [])) (omega (arith, l));
        items = pushed ∙ ap (λ k. now ++ piece.Strip k ∷ []) (is ∙ ap (λ b. strip_of s b a origin part) so_far.first)
            ∙ ap (λ qs. qs ++ piece.Strip (strip_of s (spares flush (length parts)) a origin part) ∷ []) so_far.items
            ∙ pieces_assoc old (map piece.Strip strips) (piece.Strip (strip_of s (spares flush (length parts)) a origin part) ∷ [])
            ∙ ap (λ qs. old ++ qs) (sym (ap (map piece.Strip) (strips_more parts part) ∙ map-append piece.Strip strips (strip_of s (spares flush (length parts)) a origin part ∷ [])));
      }
    where
      one : (k : ℕ) (d : List Node) → k ≤ 0 → 0 < length (get_or (part ∷ []) k d)
      one zero d least = some
      one (suc k) d least = absurd (omega (arith, least))

      later : (n : ℕ) → 0 < n → false ≡ spares flush n
      later zero positive = absurd (omega (arith, positive))
      later (suc n) positive = refl

  pub all_added : (ps : List Place) (old : List Piece) (spared : Bool) (now : List Piece) → IsAddedUpTo ps [] old spared now → IsRunAdded s a flush origin ps old now
  all_added ps old spared now so_far = record { parts = so_far.parts; each = so_far.each; places = sym (none_more (all_places so_far.parts)) ∙ so_far.places; items = so_far.items }

  -- the next part has words of its own
  pub words_next : (ps rest next : List Place) (old : List Piece) (spared : Bool) (now : List Piece) → HaveWords s origin ps → IsAddedUpTo ps rest old spared now → (part : List Node) → rest ≡ map (λ n. n.place) part ++ next → HasWords s origin part
  words_next ps rest next old spared now have so_far part joined =
      let before = all_places so_far.parts in
      let here = map (λ (n : Node). n.place) part in
      let whole : ps ≡ before ++ (here ++ next) = sym so_far.places ∙ ap (λ qs. before ++ qs) joined in
      of_part s origin have.origin_stands part
      (all_first (IsThere s) here next (all_second (IsThere s) before (here ++ next) (subst (All (IsThere s)) whole have.places)))
      (once_parts here next (once_parts before (here ++ next) (ap come_once (sym whole) ∙ have.once)).1).0
      (λ o is. (none_parts here next o (none_parts before (here ++ next) o (ap (λ qs. any_of qs o) (sym whole) ∙ have.apart o is)).1).0)
