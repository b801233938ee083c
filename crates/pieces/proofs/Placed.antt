-- Places of results by their numbers, and what is gathered by them.
use Rattle.std.proofs.Common.{◌≡◌, ◌≢◌, ℕ, zero, suc, ◌+◌, ◌-◌, ◌<◌, ◌≤◌, ◌⊎◌, inl, inr, Bool, true, false, ◌&&◌, ◌||◌, not, List, [], ◌∷◌, ◌++◌, length, map, set, take, drop, get_or, Option, Some, None, is_none, is_some, replicate, refl, ap, ◌∙◌, sym, subst, arith, length-set, get_or-set_same, get_or-set_other, if◌then◌else◌, append_assoc, zero-add, true≢false}
use Rattle.std.specs.List.{list_any, flat_map, range_with_len}
use Rattle.std.specs.Prelude.{nat_le, ◌==◌}
use Rattle.std.proofs.lemmas.Bool.{cases_eq, eq-eqb, eqb-true, ne_eqb, leb-false}
use Rattle.std.proofs.lemmas.List.{drop_more, drop_all, drop_at, take_at, take-append-drop, flat_map_more, map-append, map-set, length-append, length-map, get_or-drop, get_or-map}
use Rattle.std.proofs.lemmas.List.FromFn.{fill_by_all, length-map-range_with_len, get_or-map-range_with_len, map-range_with_len_more}
use Rattle.fpage.specs.Rights.{no_rights, join}
use Rattle.fpage.specs.declared.rights.Rights.{Rights}
use Rattle.fpage.proofs.RightSets.{join_assoc}
use Rattle.space.specs.Slices.{nodes_of}
use Rattle.space.specs.declared.slice.Slice.{Slice}
use Rattle.pieces.specs.Distinct.{is_none_of, are_distinct}
use Rattle.std.specs.List.{slice_get}
use Rattle.std.proofs.lemmas.Option.{get_or_from_slice_get}
use Rattle.pieces.specs.declared.piece.Piece.{Piece}
use Rattle.pieces.specs.declared.piece.Piece.TheVariants as piece
use Rattle.pieces.specs.Laws.{AreDone}
use Rattle.pieces.specs.Values.{Value, no_value, value}
use Rattle.pieces.specs.Dones.{DoneContent}
use Rattle.pieces.specs.Gathering.{numbers_of, has_stranger, is_missing, fault_in, found_by, all_found, union_of}
use Rattle.pieces.specs.declared.gathering.GatherFault.TheVariants as fault
use Rattle.pieces.specs.Places.{place_from, places_from}

-- one value of a table by number
pub table_set : {X : Type 0} (f g : ℕ → X) (n m : ℕ) (y : X) → m < n → y ≡ g m → ((k : ℕ) → k ≢ m → f k ≡ g k) → set (map f (range_with_len 0 n)) m y ≡ map g (range_with_len 0 n)
table_set f g n m y within here others =
    fill_by_all g (set (map f (range_with_len 0 n)) m y) n y (length-set (map f (range_with_len 0 n)) m y ∙ length-map-range_with_len f 0 n) each
  where
    each : (k : ℕ) → k < n → get_or (set (map f (range_with_len 0 n)) m y) k y ≡ g k
    each k less = by (cases_eq k m)
      where
        long : m < length (map f (range_with_len 0 n))
        long = let l = length-map-range_with_len f 0 n in omega (arith, l, within)

        by : (k ≡ m) ⊎ (k ≢ m) → get_or (set (map f (range_with_len 0 n)) m y) k y ≡ g k
        by (inl same) = rw same (get_or-set_same (map f (range_with_len 0 n)) m y y long ∙ here)
        by (inr differ) = get_or-set_other (map f (range_with_len 0 n)) m k y y differ ∙ get_or-map-range_with_len f 0 n k k y less (omega arith) ∙ others k differ

-- ---- places

-- a place is there or not
pub some_place : (p : Option ℕ) → is_some p ≡ true → is_none p ≡ false
some_place None h = absurd (cc)
some_place (Some i) h = refl

pub no_place : (p : Option ℕ) → is_some p ≡ false → is_none p ≡ true
no_place None h = refl
no_place (Some i) h = absurd (cc)

-- a number has no place exactly where it is none of the numbers
pub place_none : (at k : ℕ) (ds : List DoneContent) → is_none (place_from at k ds) ≡ is_none_of (numbers_of ds) k
place_none at k [] = refl
place_none at k (d ∷ ds) =
    elim (d.number == k) as (λ t. is_none (if t then Some at else place_from (at + 1) k ds) ≡ (not t && is_none_of (numbers_of ds) k)) [ true ↦ refl | false ↦ place_none (at + 1) k ds ]

-- some number has no place exactly where a result is missing
pub places_missing : (at : ℕ) (ds : List DoneContent) (ks : List ℕ) → list_any (λ p. is_none p) (map (λ k. place_from at k ds) ks) ≡ list_any (is_none_of (numbers_of ds)) ks
places_missing at ds [] = refl
places_missing at ds (k ∷ ks) = rw (place_none at k ds, places_missing at ds ks) refl

-- the result at a place
pub record StandsAt (at k : ℕ) (ds : List DoneContent) (i : ℕ) : Type 0 where
  pub step : ℕ
  pub is : at + step ≡ i
  pub within : step < length ds
  pub number : (e : DoneContent) → (get_or ds step e).number ≡ k
  pub found : (e : DoneContent) → found_by k ds ≡ (get_or ds step e).found

pub place_some : (at k : ℕ) (ds : List DoneContent) (i : ℕ) → place_from at k ds ≡ Some i → StandsAt at k ds i
place_some at k [] i h = absurd (cc)
place_some at k (d ∷ ds) i h = by (d.number == k) refl (place_some (at + 1) k ds i) h
  where
    by : (t : Bool) → (d.number == k) ≡ t → (place_from (at + 1) k ds ≡ Some i → StandsAt (at + 1) k ds i) → (if t then Some at else place_from (at + 1) k ds) ≡ Some i → StandsAt at k (d ∷ ds) i
    by true is later h = let same : at ≡ i = cc in record { step = 0; is = omega arith; within = omega arith; number = λ e. eqb-true d.number k is; found = λ e. rw is refl }
    by false is later h =
        let rest = later h in
        record { step = suc rest.step; is = omega (arith, rest.is); within = omega (arith, rest.within); number = rest.number; found = λ e. rw is (rest.found e) }

-- one more result in front
pub places_more : (n at : ℕ) (d : DoneContent) (ds : List DoneContent) → d.number < n → set (places_from n (at + 1) ds) d.number (Some at) ≡ places_from n at (d ∷ ds)
places_more n at d ds within =
    table_set (λ k. place_from (at + 1) k ds) (λ k. place_from at k (d ∷ ds)) n d.number (Some at) within (rw (eq-eqb d.number d.number refl) refl) (λ k differ. rw (ne_eqb d.number k (λ e. differ (sym e))) refl)

-- no results have no places
pub places_none : (n a at : ℕ) → replicate n None ≡ map (λ k. place_from at k []) (range_with_len a n)
places_none zero a at = refl
places_none (suc n) a at = ap (λ ps. None ∷ ps) (places_none n (a + 1) at)

-- none of the numbers is too high
pub below : (n : ℕ) (ds : List DoneContent) (i : ℕ) (e : DoneContent) → has_stranger n ds ≡ false → i < length ds → (get_or ds i e).number < n
below n [] i e none within = absurd (omega (arith, within))
below n (d ∷ ds) zero e none within = by (nat_le n d.number) refl none
  where
    by : (t : Bool) → nat_le n d.number ≡ t → (t || has_stranger n ds) ≡ false → d.number < n
    by true is none = absurd (cc)
    by false is none = leb-false n d.number is
below n (d ∷ ds) (suc i) e none within = below n ds i e (by (nat_le n d.number) none) (omega (arith, within))
  where
    by : (t : Bool) → (t || has_stranger n ds) ≡ false → has_stranger n ds ≡ false
    by true none = absurd (cc)
    by false none = none

-- numbers that come twice among the last come twice among all
pub twice_drop : (i : ℕ) (ds : List DoneContent) → are_distinct (numbers_of (drop i ds)) ≡ false → are_distinct (numbers_of ds) ≡ false
twice_drop zero ds twice = twice
twice_drop (suc i) [] twice = twice
twice_drop (suc i) (d ∷ ds) twice = by (is_none_of (numbers_of ds) d.number) (are_distinct (numbers_of ds)) (twice_drop i ds twice)
  where
    by : (a b : Bool) → b ≡ false → (a && b) ≡ false
    by true b h = h
    by false b h = refl

-- ---- what is gathered

map_map : {A B C : Type 0} (f : A → B) (g : B → C) (xs : List A) → map g (map f xs) ≡ map (λ x. g (f x)) xs
map_map f g [] = refl
map_map f g (x ∷ xs) = ap (λ ys. g (f x) ∷ ys) (map_map f g xs)

-- the nodes of one more result in front
pub kept_more : (n : ℕ) (d : DoneContent) (ds : List DoneContent) → d.number < n → set (map (λ v. v.kept) (all_found n ds)) d.number d.found.kept ≡ map (λ v. v.kept) (all_found n (d ∷ ds))
kept_more n d ds within =
    rw (map_map (λ k. found_by k ds) (λ (v : Value). v.kept) (range_with_len 0 n), map_map (λ k. found_by k (d ∷ ds)) (λ (v : Value). v.kept) (range_with_len 0 n))
    (table_set (λ k. (found_by k ds).kept) (λ k. (found_by k (d ∷ ds)).kept) n d.number d.found.kept within (rw (eq-eqb d.number d.number refl) refl) (λ k differ. rw (ne_eqb d.number k (λ e. differ (sym e))) refl))

-- what the next piece found
pub all_found_more : (n : ℕ) (ds : List DoneContent) → all_found (n + 1) ds ≡ all_found n ds ++ found_by n ds ∷ []
all_found_more n ds = map-range_with_len_more (λ k. found_by k ds) 0 n n (omega arith)

-- the union with no status
pub join_none : (s : Rights) → join s no_rights ≡ s
join_none s = rw (or_false s.read, or_false s.write, or_false s.execute) refl
  where
    or_false : (b : Bool) → (b || false) ≡ b
    or_false true = refl
    or_false false = refl

union_append : (ss : List Rights) (s : Rights) → union_of (ss ++ s ∷ []) ≡ join (union_of ss) s
union_append [] s = join_none s
union_append (t ∷ ss) s = ap (join t) (union_append ss s) ∙ sym (join_assoc t (union_of ss) s)

-- its status
pub status_more : (n : ℕ) (ds : List DoneContent) → union_of (map (λ v. v.status) (all_found (n + 1) ds)) ≡ join (union_of (map (λ v. v.status) (all_found n ds))) (found_by n ds).status
status_more n ds =
    ap (λ vs. union_of (map (λ (v : Value). v.status) vs)) (all_found_more n ds) ∙ ap union_of (map-append (λ (v : Value). v.status) (all_found n ds) (found_by n ds ∷ []))
    ∙ union_append (map (λ (v : Value). v.status) (all_found n ds)) (found_by n ds).status

-- its answers
pub answers_more : (n : ℕ) (ds : List DoneContent) → flat_map (λ v. v.answers) (all_found (n + 1) ds) ≡ flat_map (λ v. v.answers) (all_found n ds) ++ (found_by n ds).answers
answers_more n ds = ap (flat_map (λ (v : Value). v.answers)) (all_found_more n ds) ∙ sym (flat_map_more (λ (v : Value). v.answers) [] (all_found n ds) (found_by n ds))

-- the last result of the first of all
pub record IsPopped (full rest new : List DoneContent) (d : DoneContent) : Type 0 where
  pub left : new ≡ take (length new) full
  pub last : drop (length new) full ≡ d ∷ drop (length rest) full
  pub within : length new < length full

pub popped : (full rest new : List DoneContent) (d : DoneContent) → rest ≡ take (length rest) full → rest ≡ new ++ d ∷ [] → IsPopped full rest new d
popped full rest new d front is = record {
  left = sym (ap (take (length new)) whole ∙ take_at new (d ∷ drop (length rest) full) (length new) refl);
  last = ap (drop (length new)) whole ∙ drop_at new (d ∷ drop (length rest) full) (length new) refl;
  within = let l = ap length whole in let m = length-append new (d ∷ drop (length rest) full) in omega (arith, l, m);
}
  where
    whole : full ≡ new ++ d ∷ drop (length rest) full
    whole = sym (take-append-drop (length rest) full) ∙ ap (λ xs. xs ++ drop (length rest) full) (sym front ∙ is) ∙ append_assoc new (d ∷ []) (drop (length rest) full)

-- ---- the table of places

-- the results from a position on have their places, and no two of them one number
abbrev pub ArePlaced : ℕ → ℕ → List DoneContent → List (Option ℕ) → Type 0
ArePlaced n i given places = (places ≡ places_from n i (drop i given)) × (are_distinct (numbers_of (drop i given)) ≡ true) × (i ≤ length given)

-- none so far
pub none_placed : (n : ℕ) (given : List DoneContent) (places : List (Option ℕ)) → places ≡ replicate n None → ArePlaced n (length given) given places
none_placed n given places is = rw (is, drop_all (length given) given (omega arith)) (places_none n 0 (length given), refl, omega arith)

-- the next result, and those behind it
next_result : (i : ℕ) (given : List DoneContent) (d : DoneContent) → 0 < i → i ≤ length given → d ≡ get_or given (i - 1) d → drop (i - 1) given ≡ d ∷ drop i given
next_result i given d more within is =
    let back : (i - 1) + 1 ≡ i = omega arith in
    drop_more given (i - 1) d (omega arith) ∙ ap (λ e. e ∷ drop ((i - 1) + 1) given) (sym is) ∙ ap (λ k. d ∷ drop k given) back

-- its number is below that of pieces
pub number_below : (n i : ℕ) (given : List DoneContent) (places : List (Option ℕ)) (d : DoneContent) → has_stranger n given ≡ false → 0 < i → ArePlaced n i given places → d ≡ get_or given (i - 1) d
    → (d.number < n) × (d.number < length places)
number_below n i given places d none more placed is =
    let l = ap length placed.0 ∙ length-map-range_with_len (λ k. place_from i k (drop i given)) 0 n in
    let low : d.number < n = subst (λ e. e.number < n) (sym is) (below n given (i - 1) d none (omega (arith, placed.2))) in
    (low, omega (arith, low, l))

-- it has no place yet exactly where its number is none of those behind it
place_of_number : (n i : ℕ) (given : List DoneContent) (places : List (Option ℕ)) (m : ℕ) (p : Option ℕ) → m < n → ArePlaced n i given places → p ≡ get_or places m p → is_none p ≡ is_none_of (numbers_of (drop i given)) m
place_of_number n i given places m p low placed is =
    ap is_none (is ∙ ap (λ ps. get_or ps m p) placed.0 ∙ get_or-map-range_with_len (λ k. place_from i k (drop i given)) 0 n m m p low (omega arith)) ∙ place_none i m (drop i given)

pub next_placed : (n i : ℕ) (given : List DoneContent) (places : List (Option ℕ)) (d : DoneContent) (p : Option ℕ) → has_stranger n given ≡ false → 0 < i → ArePlaced n i given places → d ≡ get_or given (i - 1) d
    → p ≡ get_or places d.number p → is_none p ≡ true → ArePlaced n (i - 1) given (set places d.number (Some (i - 1)))
next_placed n i given places d p none more placed is at free =
    let low = number_below n i given places d none more placed is in
    let next = next_result i given d more placed.2 is in
    let back : i ≡ (i - 1) + 1 = omega arith in
    let new = sym (place_of_number n i given places d.number p low.0 placed at) ∙ free in
    rw next (
      ap (λ ps. set ps d.number (Some (i - 1))) (placed.0 ∙ ap (λ k. places_from n k (drop i given)) back) ∙ places_more n (i - 1) d (drop i given) low.0,
      rw (new, placed.1) refl,
      omega (arith, placed.2),
    )

-- a number that has a place comes twice
pub comes_twice : (n i : ℕ) (given : List DoneContent) (places : List (Option ℕ)) (d : DoneContent) (p : Option ℕ) → has_stranger n given ≡ false → 0 < i → ArePlaced n i given places → d ≡ get_or given (i - 1) d
    → p ≡ get_or places d.number p → is_none p ≡ false → are_distinct (numbers_of given) ≡ false
comes_twice n i given places d p none more placed is at taken =
    let low = number_below n i given places d none more placed is in
    let next = next_result i given d more placed.2 is in
    let old = sym (place_of_number n i given places d.number p low.0 placed at) ∙ taken in
    twice_drop (i - 1) given (ap (λ ds. are_distinct (numbers_of ds)) next ∙ rw old refl)

-- ---- results at their places

-- the place of a number leads to its result
pub record LeadsThere (given : List DoneContent) (k i : ℕ) : Type 0 where
  pub within : i < length given
  pub found : (e : DoneContent) → found_by k given ≡ (get_or given i e).found

pub leads_there : (given : List DoneContent) (places : List (Option ℕ)) (k i : ℕ) → places ≡ places_from (length places) 0 given → k < length places → get_or places k None ≡ Some i → LeadsThere given k i
leads_there given places k i are low is =
    let there = place_some 0 k given i (sym (get_or-map-range_with_len (λ m. place_from 0 m given) 0 (length places) k k None low (omega arith)) ∙ sym (ap (λ ps. get_or ps k None) are) ∙ is) in
    let same : there.step ≡ i = omega (arith, there.is) in
    record { within = omega (arith, same, there.within); found = λ e. there.found e ∙ ap (λ j. (get_or given j e).found) same }

-- a number without a place found nothing
no_result : (at k : ℕ) (ds : List DoneContent) → place_from at k ds ≡ None → found_by k ds ≡ no_value
no_result at k [] h = refl
no_result at k (d ∷ ds) h = by (d.number == k) (no_result (at + 1) k ds) h
  where
    by : (t : Bool) → (place_from (at + 1) k ds ≡ None → found_by k ds ≡ no_value) → (if t then Some at else place_from (at + 1) k ds) ≡ None → (if t then d.found else found_by k ds) ≡ no_value
    by true later h = absurd (cc)
    by false later h = later h

pub leads_nowhere : (given : List DoneContent) (places : List (Option ℕ)) (k : ℕ) → places ≡ places_from (length places) 0 given → k < length places → get_or places k None ≡ None → found_by k given ≡ no_value
leads_nowhere given places k are low is =
    no_result 0 k given (sym (get_or-map-range_with_len (λ m. place_from 0 m given) 0 (length places) k k None low (omega arith)) ∙ sym (ap (λ ps. get_or ps k None) are) ∙ is)

pub not_some : (p : Option ℕ) → ((i : ℕ) → p ≡ Some i → ⊥) → p ≡ None
not_some None h = refl
not_some (Some i) h = absurd (h i refl)

-- the nodes of a list of parts, of which one is replaced
pub nodes_set : (parts : List Slice) (i : ℕ) (part : Slice) → nodes_of (set parts i part) ≡ set (nodes_of parts) i part.nodes.items
nodes_set parts i part = map-set (λ (s : Slice). s.nodes.items) parts i part

-- the number of the last result is not too high
pub below_of_last : (n : ℕ) (full rest new : List DoneContent) (d : DoneContent) → has_stranger n full ≡ false → IsPopped full rest new d → d.number < n
below_of_last n full rest new d none p =
    let here = get_or-drop (length new) full 0 d in
    let same : length new + 0 ≡ length new = omega arith in
    let is : get_or full (length new) d ≡ d = sym (here ∙ ap (λ i. get_or full i d) same) ∙ ap (λ xs. get_or xs 0 d) p.last in
    subst (λ e. e.number < n) is (below n full (length new) d none p.within)

-- one more empty place
pub empty_more : (parts : List Slice) (part : Slice) (n : ℕ) → nodes_of parts ≡ map (λ v. v.kept) (all_found n []) → part.nodes.items ≡ [] → nodes_of (parts ++ part ∷ []) ≡ map (λ v. v.kept) (all_found (n + 1) [])
empty_more parts part n upto empty =
    map-append (λ (s : Slice). s.nodes.items) parts (part ∷ []) ∙ ap (λ ns. nodes_of parts ++ ns ∷ []) empty ∙ ap (λ ns. ns ++ [] ∷ []) upto
    ∙ sym (ap (map (λ (v : Value). v.kept)) (all_found_more n []) ∙ map-append (λ (v : Value). v.kept) (all_found n []) (found_by n [] ∷ []))

-- ---- faults

-- what is wrong with results none of which is a stranger's
pub twice_fault : (n : ℕ) (ds : List DoneContent) → has_stranger n ds ≡ false → are_distinct (numbers_of ds) ≡ false → fault_in n ds ≡ Some fault.Twice
twice_fault n ds none twice = rw (none, twice) refl

pub missing_fault : (n : ℕ) (ds : List DoneContent) (places : List (Option ℕ)) → has_stranger n ds ≡ false → are_distinct (numbers_of ds) ≡ true → places ≡ places_from n 0 ds → list_any (λ p. is_none p) places ≡ true
    → fault_in n ds ≡ Some fault.Missing
missing_fault n ds places none once are missing =
    let gone : is_missing n ds ≡ true = sym (ap (list_any (λ p. is_none p)) are ∙ places_missing 0 ds (range_with_len 0 n)) ∙ missing in
    rw (none, once, gone) refl

pub no_fault : (n : ℕ) (ds : List DoneContent) (places : List (Option ℕ)) → has_stranger n ds ≡ false → are_distinct (numbers_of ds) ≡ true → places ≡ places_from n 0 ds → list_any (λ p. is_none p) places ≡ false
    → fault_in n ds ≡ None
no_fault n ds places none once are missing =
    let gone : is_missing n ds ≡ false = sym (ap (list_any (λ p. is_none p)) are ∙ places_missing 0 ds (range_with_len 0 n)) ∙ missing in
    rw (none, once, gone) refl

-- where there is no fault, there is no stranger
pub no_stranger : (n : ℕ) (ds : List DoneContent) → fault_in n ds ≡ None → has_stranger n ds ≡ false
no_stranger n ds h = by (has_stranger n ds) h
  where
    by : (t : Bool) → (if t then Some fault.Stranger else if not (are_distinct (numbers_of ds)) then Some fault.Twice else if is_missing n ds then Some fault.Missing else None) ≡ None → t ≡ false
    by true h = absurd (cc)
    by false h = refl

-- there is a place for each number
pub places_length : (n : ℕ) (ds : List DoneContent) (places : List (Option ℕ)) → places ≡ places_from n 0 ds → (length places ≡ n) × (places ≡ places_from (length places) 0 ds)
places_length n ds places are =
    let l : length places ≡ n = ap length are ∙ length-map-range_with_len (λ k. place_from 0 k ds) 0 n in (l, are ∙ ap (λ m. places_from m 0 ds) (sym l))

-- there is an empty place for each number
pub slices_length : (n : ℕ) (slices : List Slice) → nodes_of slices ≡ map (λ v. v.kept) (all_found n []) → length slices ≡ n
slices_length n slices are =
    sym (length-map slices (λ (s : Slice). s.nodes.items)) ∙ ap length are ∙ length-map (all_found n []) (λ (v : Value). v.kept) ∙ length-map-range_with_len (λ k. found_by k []) 0 n

-- ---- values

-- where no number is missing, each has a result
pub none_missing : (a n : ℕ) (ds : List DoneContent) (k : ℕ) → list_any (is_none_of (numbers_of ds)) (range_with_len a n) ≡ false → k < n → is_none_of (numbers_of ds) (a + k) ≡ false
none_missing a zero ds k none low = absurd (omega (arith, low))
none_missing a (suc n) ds zero none low = let same : a + 0 ≡ a = omega arith in rw same (by (is_none_of (numbers_of ds) a) none)
  where
    by : (t : Bool) → (t || list_any (is_none_of (numbers_of ds)) (range_with_len (a + 1) n)) ≡ false → t ≡ false
    by true h = absurd (cc)
    by false h = refl
none_missing a (suc n) ds (suc k) none low =
    let same : a + suc k ≡ (a + 1) + k = omega arith in rw same (none_missing (a + 1) n ds k (by (is_none_of (numbers_of ds) a) none) (omega (arith, low)))
  where
    by : (t : Bool) → (t || list_any (is_none_of (numbers_of ds)) (range_with_len (a + 1) n)) ≡ false → list_any (is_none_of (numbers_of ds)) (range_with_len (a + 1) n) ≡ false
    by true h = absurd (cc)
    by false h = h

-- where there is no fault, none is missing
pub all_there : (n : ℕ) (ds : List DoneContent) → fault_in n ds ≡ None → is_missing n ds ≡ false
all_there n ds h = by (has_stranger n ds) (not (are_distinct (numbers_of ds))) (is_missing n ds) h
  where
    by : (s t m : Bool) → (if s then Some fault.Stranger else if t then Some fault.Twice else if m then Some fault.Missing else None) ≡ None → m ≡ false
    by true t m h = absurd (cc)
    by false true m h = absurd (cc)
    by false false true h = absurd (cc)
    by false false false h = refl

-- the result of a number
pub result_of : (n : ℕ) (ds : List DoneContent) (k : ℕ) → fault_in n ds ≡ None → k < n → (i : ℕ) × StandsAt 0 k ds i
result_of n ds k whole low = by (place_from 0 k ds) refl
  where
    there : is_none_of (numbers_of ds) k ≡ false
    there = ap (is_none_of (numbers_of ds)) (sym (zero-add k)) ∙ none_missing 0 n ds k (all_there n ds whole) low

    by : (p : Option ℕ) → place_from 0 k ds ≡ p → (i : ℕ) × StandsAt 0 k ds i
    by None is = absurd (true≢false (sym (ap is_none is) ∙ place_none 0 k ds ∙ there))
    by (Some i) is = (i, place_some 0 k ds i is)

-- results of pieces are their values
pub gathered : (w : List ℕ) (ps : List Piece) (ds : List DoneContent) → AreDone w ps ds → all_found (length ps) ds ≡ map (value w) ps
gathered w ps ds done = sym (fill_by_all (λ k. found_by k ds) (map (value w) ps) (length ps) no_value (length-map ps (value w)) each)
  where
    each : (k : ℕ) → k < length ps → get_or (map (value w) ps) k no_value ≡ found_by k ds
    each k low =
        let r = result_of (length ps) ds k done.once low in
        let at = r.1 in
        let e : DoneContent = record { number = 0; found = no_value; of = piece.Touch []; words = [] } in
        let is : slice_get ps k ≡ Some (get_or ds at.step e).of = sym (ap (slice_get ps) (at.number e)) ∙ done.of at.step e at.within in
        get_or-map (value w) ps k (get_or ds at.step e).of no_value low ∙ ap (value w) (get_or_from_slice_get ps k _ (get_or ds at.step e).of is)
        ∙ sym (ap (λ v. value v (get_or ds at.step e).of) (done.words at.step e at.within)) ∙ sym (done.values at.step e at.within) ∙ sym (at.found e)
