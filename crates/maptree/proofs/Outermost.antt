-- The outermost runs of named places, found from the front of the list on.
use Rattle.std.proofs.Common.{◌≡◌, ℕ, zero, suc, ◌+◌, ◌-◌, ◌<◌, ◌≤◌, true, false, Bool, ◌&&◌, nat_lt, nat_le, List, [], ◌∷◌, ◌++◌, length, take, drop, get_or, Option, Some, None, refl, sym, ap, ◌∙◌, subst, arith, ◌⊎◌, inl, inr, ◌||◌, cond, Result, Ok, Err, is_ok, OnOk}
use Rattle.std.specs.List.{All, list_any}
use Rattle.std.specs.Option.{option_and_then}
use Rattle.std.specs.FinMap.Entries.{find}
use Rattle.std.specs.declared.ops.Range.{Range}
use Rattle.std.proofs.lemmas.Bool.{lt-ltb, le-leb, ltb-true, leb-true, and_parts}
use Rattle.std.proofs.lemmas.List.Elements.{All-push}
use Rattle.std.proofs.lemmas.List.Folds.{list_any_more}
use Rattle.space.specs.declared.place.Place.{Place}
use Rattle.space.specs.Place.{place_cmp, same_place}
use Rattle.space.proofs.Places.{same_self, same_or_apart, apart_back}
use Rattle.space.specs.declared.node.Node.{Node}
use Rattle.maptree.specs.Origins.{Origins, origin_in, after_origins, place_at, LeadsTo, LeadsToOne, IsRun, BeginsAtOne, AreRising, LiesInOne, AreOuterRuns}
use Rattle.maptree.specs.Nodes.{is_forest, above, first, links, origins_of, run_len}
use Rattle.maptree.proofs.Paths.{In, HasPlace}
use Rattle.maptree.proofs.Runs.{place_of, run_at, in_drop, has_place, forest_run}
use Rattle.maptree.proofs.Positions.{length-links, place_at-links, place_of_read, run_is, run_says, run_len-le}

-- ---- a set of places

-- what holds where a call succeeded, since it did
pub on_ok : {A E : Type 0} (r : Result A E) (P : Type 0) → is_ok r ≡ true → OnOk r P → P
on_ok (Ok a) P went h = h
on_ok (Err e) P went h = absurd (cc went)

-- one more place is in the set
pub one_named : (places : List Place) (i : ℕ) (q p d : Place) (before after : List Place) → i < length places → p ≡ get_or places i d
    → list_any (same_place q) before ≡ list_any (same_place q) (take i places)
    → list_any (same_place q) after ≡ cond (same_place p q) true (list_any (same_place q) before)
    → list_any (same_place q) after ≡ list_any (same_place q) (take (i + 1) places)
one_named places i q p d before after within is so_far one =
    one ∙ by (list_any (same_place q) before) (same_or_apart p q) ∙ ap (λ b. b || same_place q p) so_far ∙ ap (λ x. list_any (same_place q) (take i places) || same_place q x) is ∙ sym (list_any_more (same_place q) places i d within)
  where
    last : (b : Bool) → (b || true) ≡ true
    last b = grind arith

    none : (b : Bool) → (b || false) ≡ b
    none b = grind arith

    by : (b : Bool) → (p ≡ q) ⊎ (same_place p q ≡ false) → cond (same_place p q) true b ≡ (b || same_place q p)
    by b (inl same) = subst (λ x. cond (same_place p x) true b ≡ (b || same_place x p)) same (ap (λ t. cond t true b) (same_self p) ∙ sym (ap (λ t. b || t) (same_self p) ∙ last b))
    by b (inr apart) = ap (λ t. cond t true b) apart ∙ sym (ap (λ t. b || t) (apart_back p q apart) ∙ none b)

-- ---- what places lead to is in the tree

first_in : (o : Place) (path : List Place) → first path ≡ Some o → In o path
first_in o [] is = absurd (cc is)
first_in o (p ∷ path) is = inl (cc is)

-- an origin is on the path or is the place of a node before
origin_found : (p o : Place) (path : List Place) (ns : List Node) → option_and_then (λ x. x) (find place_cmp p (links path ns)) ≡ Some o → In o path ⊎ HasPlace o ns
origin_found p o path [] is = absurd (cc is)
origin_found p o path (n ∷ ns) is = by (same_place p n.place) refl is (origin_found p o (n.place ∷ above n path) ns)
  where
    next : In o (n.place ∷ above n path) ⊎ HasPlace o ns → In o path ⊎ HasPlace o (n ∷ ns)
    next (inl (inl same)) = inr (inl same)
    next (inl (inr there)) = inl (in_drop o (length path - n.depth) path there)
    next (inr k) = inr (inr k)

    by : (b : Bool) → same_place p n.place ≡ b → option_and_then (λ x. x) (find place_cmp p (links path (n ∷ ns))) ≡ Some o
        → (option_and_then (λ x. x) (find place_cmp p (links (n.place ∷ above n path) ns)) ≡ Some o → In o (n.place ∷ above n path) ⊎ HasPlace o ns)
        → In o path ⊎ HasPlace o (n ∷ ns)
    by true e is rest = inl (in_drop o (length path - n.depth) path (first_in o (above n path) (rw e at is)))
    by false e is rest = next (rest (rw e at is))

lead_in_tree : (ns : List Node) (k : ℕ) (p q : Place) → HasPlace p ns → after_origins k (origins_of ns) p ≡ Some q → HasPlace q ns
lead_in_tree ns zero p q there leads = let same : p ≡ q = cc leads in subst (λ x. HasPlace x ns) same there
lead_in_tree ns (suc k) p q there leads = by (origin_in (origins_of ns) p) refl leads (lead_in_tree ns k)
  where
    in_tree : (o : Place) → In o [] ⊎ HasPlace o ns → HasPlace o ns
    in_tree o (inl none) = absurd none
    in_tree o (inr k) = k

    by : (o : Option Place) → origin_in (origins_of ns) p ≡ o → option_and_then (after_origins k (origins_of ns)) o ≡ Some q
        → ((o q : Place) → HasPlace o ns → after_origins k (origins_of ns) o ≡ Some q → HasPlace q ns) → HasPlace q ns
    by None is leads rest = absurd (cc leads)
    by (Some o) is leads rest = rest o q (in_tree o (origin_found p o [] ns is)) leads

-- the position of a place that is there
record StandsAt (ns : List Node) (q : Place) : Type 0 where
  at : ℕ
  within : at < length ns
  is : (d : Place) → place_of ns at d ≡ q

stands_at : (ns : List Node) (q : Place) → HasPlace q ns → StandsAt ns q
stands_at [] q k = absurd k
stands_at (n ∷ ns) q (inl same) = record { at = 0; within = omega arith; is = λ d. sym same }
stands_at (n ∷ ns) q (inr k) =
    let rest = stands_at ns q k in
    let less = rest.within in
    record { at = suc rest.at; within = omega (arith, less); is = rest.is }

-- ---- runs within runs

run_len_less : (a b : ℕ) (ns : List Node) → a ≤ b → run_len b ns ≤ run_len a ns
run_len_less a b [] upto = omega arith
run_len_less a b (n ∷ ns) upto = by (nat_lt b n.depth) refl (run_len_less a b ns upto)
  where
    by : (t : Bool) → nat_lt b n.depth ≡ t → run_len b ns ≤ run_len a ns → run_len b (n ∷ ns) ≤ run_len a (n ∷ ns)
    by true deep rest = let less = ltb-true b n.depth deep in rw (deep, lt-ltb a n.depth (omega (arith, less, upto))) (omega (arith, rest))
    by false deep rest = rw deep (omega arith)

run_in_front : (depth : ℕ) (ns : List Node) (k : ℕ) → k < run_len depth ns → k + 1 + run_at ns k ≤ run_len depth ns
run_in_front depth [] k less = absurd (omega (arith, less))
run_in_front depth (n ∷ ns) k less = by (nat_lt depth n.depth) refl k less (run_in_front depth ns)
  where
    by : (t : Bool) → nat_lt depth n.depth ≡ t → (k : ℕ) → k < run_len depth (n ∷ ns) → ((k : ℕ) → k < run_len depth ns → k + 1 + run_at ns k ≤ run_len depth ns)
        → k + 1 + run_at (n ∷ ns) k ≤ run_len depth (n ∷ ns)
    by false deep k less rest = let none : k < 0 = (rw deep at less) in absurd (omega (arith, none))
    by true deep zero less rest = let high = ltb-true depth n.depth deep in let more = run_len_less depth n.depth ns (omega (arith, high)) in rw deep (omega (arith, more))
    by true deep (suc k) less rest = let here : suc k < 1 + run_len depth ns = (rw deep at less) in let more = rest k (omega (arith, here)) in rw deep (omega (arith, more))

-- the run of a node within a run ends by that run's end
run_nested : (ns : List Node) (i k : ℕ) → i ≤ k → k < i + 1 + run_at ns i → k + 1 + run_at ns k ≤ i + 1 + run_at ns i
run_nested [] i k more less = omega (arith, more, less)
run_nested (n ∷ ns) zero zero more less = omega arith
run_nested (n ∷ ns) zero (suc k) more less = let front = run_in_front n.depth ns k (omega (arith, less)) in omega (arith, front)
run_nested (n ∷ ns) (suc i) zero more less = absurd (omega (arith, more))
run_nested (n ∷ ns) (suc i) (suc k) more less = let rest = run_nested ns i k (omega (arith, more)) (omega (arith, less)) in omega (arith, rest)

-- and no run ends behind the list
pub run_within : (ns : List Node) (i : ℕ) → i < length ns → i + 1 + run_at ns i ≤ length ns
run_within [] i within = absurd (omega (arith, within))
run_within (n ∷ ns) zero within = let most = run_len-le n.depth ns in omega (arith, most)
run_within (n ∷ ns) (suc i) within = let rest = run_within ns i (omega (arith, within)) in omega (arith, rest)

-- ---- ranges

pub rising_more : (from : ℕ) (rs : List (Range ℕ)) (a b : ℕ) → AreRising from rs a → a ≤ b → AreRising from rs b
rising_more from [] a b rising upto = omega (arith, rising, upto)
rising_more from (r ∷ rs) a b rising upto = (rising.0, rising.1, rising_more r.end rs a b rising.2 upto)

pub rising_push : (from : ℕ) (rs : List (Range ℕ)) (r : Range ℕ) → AreRising from rs r.start → r.start < r.end → AreRising from (rs ++ r ∷ []) r.end
rising_push from [] r rising some = (rising, some, omega arith)
rising_push from (x ∷ rs) r rising some = (rising.0, rising.1, rising_push x.end rs r rising.2 some)

pub lies_front : (j : ℕ) (rs : List (Range ℕ)) (r : Range ℕ) → LiesInOne j rs → LiesInOne j (rs ++ r ∷ [])
lies_front j [] r k = absurd k
lies_front j (x ∷ rs) r (inl here) = inl here
lies_front j (x ∷ rs) r (inr k) = inr (lies_front j rs r k)

pub lies_last : (j : ℕ) (rs : List (Range ℕ)) (r : Range ℕ) → r.start ≤ j → j < r.end → LiesInOne j (rs ++ r ∷ [])
lies_last j [] r more less = inl (more, less)
lies_last j (x ∷ rs) r more less = inr (lies_last j rs r more less)

-- ---- so far

-- the ranges are the outermost runs of the named nodes before a position, and end by it
pub record AreSoFar (ns : List Node) (places : List Place) (i : ℕ) (runs : List (Range ℕ)) : Type 0 where
  pub upto : i ≤ length ns
  pub rising : AreRising 0 runs i
  pub whole : All (IsRun (origins_of ns)) runs
  pub named : All (BeginsAtOne (origins_of ns) places) runs
  pub has : (k : ℕ) (d : Place) → k < i → list_any (same_place (place_of ns k d)) places ≡ true
      → (k + 1 + run_at ns k ≤ i) × ((j : ℕ) → k ≤ j → j < k + 1 + run_at ns k → LiesInOne j runs)

split_last : (k i : ℕ) → k < i + 1 → (k < i) ⊎ (k ≡ i)
split_last k i less = grind (arith, less)

split_at : (k i : ℕ) → (k < i) ⊎ (i ≤ k)
split_at k i = grind arith

-- a node that is not named is passed over
pub one_passed : (ns : List Node) (places : List Place) (i : ℕ) (n : Node) (runs : List (Range ℕ)) → AreSoFar ns places i runs → i < length ns → n ≡ get_or ns i n → list_any (same_place n.place) places ≡ false
    → AreSoFar ns places (i + 1) runs
one_passed ns places i n runs so_far within is other = record {
  upto = omega (arith, within);
  rising = rising_more 0 runs i (i + 1) so_far.rising (omega arith);
  whole = so_far.whole;
  named = so_far.named;
  has = λ k d less named. by k d named (split_last k i less);
}
  where
    by : (k : ℕ) (d : Place) → list_any (same_place (place_of ns k d)) places ≡ true → (k < i) ⊎ (k ≡ i)
        → (k + 1 + run_at ns k ≤ i + 1) × ((j : ℕ) → k ≤ j → j < k + 1 + run_at ns k → LiesInOne j runs)
    by k d named (inl less) = let h = so_far.has k d less named in let end = h.0 in (omega (arith, end), h.1)
    by k d named (inr same) =
        let here : place_of ns k d ≡ n.place = ap (λ m. place_of ns m d) same ∙ place_of_read ns i d n within ∙ ap (λ m. m.place) (sym is) in
        let both : true ≡ false = sym named ∙ ap (λ p. list_any (same_place p) places) here ∙ other in
        absurd (cc both)

-- nodes of which none is named are passed over
pub pass_to : (ns : List Node) (places : List Place) (i j : ℕ) (runs : List (Range ℕ)) → AreSoFar ns places i runs → i ≤ j → j ≤ length ns
    → ((k : ℕ) (d : Place) → i ≤ k → k < j → list_any (same_place (place_of ns k d)) places ≡ true → ⊥) → AreSoFar ns places j runs
pass_to ns places i j runs so_far more within none = record {
  upto = within;
  rising = rising_more 0 runs i j so_far.rising more;
  whole = so_far.whole;
  named = so_far.named;
  has = λ k d less named. by k d less named (split_at k i);
}
  where
    by : (k : ℕ) (d : Place) → k < j → list_any (same_place (place_of ns k d)) places ≡ true → (k < i) ⊎ (i ≤ k)
        → (k + 1 + run_at ns k ≤ j) × ((a : ℕ) → k ≤ a → a < k + 1 + run_at ns k → LiesInOne a runs)
    by k d less named (inl before) = let h = so_far.has k d before named in let end = h.0 in (omega (arith, end, more), h.1)
    by k d less named (inr behind) = absurd (none k d behind less named)

-- the run of a node that is named is one more
pub one_more_run : (ns : List Node) (places : List Place) (i r : ℕ) (n : Node) (runs : List (Range ℕ)) → AreSoFar ns places i runs → is_forest ns ≡ true → i < length ns → n ≡ get_or ns i n → list_any (same_place n.place) places ≡ true
    → r ≡ run_len n.depth (take (length ns - (i + 1)) (drop (i + 1) ns))
    → AreSoFar ns places (i + 1 + r) (runs ++ record { start = i; end = i + 1 + r } ∷ [])
one_more_run ns places i r n runs so_far forest within is named run = record {
  upto = let most = run_within ns i within in omega (arith, most, same);
  rising = rising_push 0 runs one so_far.rising (omega arith);
  whole = All-push (IsRun (origins_of ns)) runs one so_far.whole (run_says ns i r n forest within is run);
  named = All-push (BeginsAtOne (origins_of ns) places) runs one so_far.named (λ d. ap (λ p. list_any (same_place p) places) (here d) ∙ named);
  has = λ k d less other. by k d less other (split_at k i);
}
  where
    one : Range ℕ
    one = record { start = i; end = i + 1 + r }

    same : r ≡ run_at ns i
    same = run_is ns i r n within is run

    here : (d : Place) → place_at (origins_of ns) i d ≡ n.place
    here d = place_at-links [] ns i d ∙ place_of_read ns i d n within ∙ ap (λ m. m.place) (sym is)

    by : (k : ℕ) (d : Place) → k < i + 1 + r → list_any (same_place (place_of ns k d)) places ≡ true → (k < i) ⊎ (i ≤ k)
        → (k + 1 + run_at ns k ≤ i + 1 + r) × ((j : ℕ) → k ≤ j → j < k + 1 + run_at ns k → LiesInOne j (runs ++ one ∷ []))
    by k d less other (inl before) =
        let h = so_far.has k d before other in
        let end = h.0 in
        (omega (arith, end), λ j more below. lies_front j runs one (h.1 j more below))
    by k d less other (inr behind) =
        let most = run_nested ns i k behind (omega (arith, less, same)) in
        (omega (arith, most, same), λ j more below. lies_last j runs one (omega (arith, more, behind)) (omega (arith, below, most, same)))

-- ---- at the end

lies_leads : (ns : List Node) (places : List Place) (runs : List (Range ℕ)) → All (IsRun (origins_of ns)) runs → All (BeginsAtOne (origins_of ns) places) runs → (j : ℕ) (d : Place) → j < length (origins_of ns) → LiesInOne j runs
    → LeadsToOne (origins_of ns) places (place_at (origins_of ns) j d)
lies_leads ns places [] whole named j d within lies = absurd lies
lies_leads ns places (r ∷ rs) whole named j d within (inl here) =
    let test : (nat_le r.start j && nat_lt j r.end) ≡ true = rw (le-leb r.start j here.0, lt-ltb j r.end here.1) refl in
    record { named = place_at (origins_of ns) r.start d; among = named 0 r (omega arith) d; leads = (whole 0 r (omega arith) j d within).0 test }
lies_leads ns places (r ∷ rs) whole named j d within (inr k) = lies_leads ns places rs (λ m e less. whole (suc m) e (omega (arith, less))) (λ m e less. named (suc m) e (omega (arith, less))) j d within k

leads_lies : (ns : List Node) (places : List Place) (runs : List (Range ℕ)) (i : ℕ) → AreSoFar ns places i runs → is_forest ns ≡ true → length ns ≤ i → (j : ℕ) (d : Place) → j < length (origins_of ns)
    → LeadsToOne (origins_of ns) places (place_at (origins_of ns) j d) → LiesInOne j runs
leads_lies ns places runs i so_far forest all j d within to =
    let size = length-links [] ns in
    let less : j < length ns = omega (arith, size, within) in
    let p = place_at-links [] ns j d in
    let from : LeadsTo (origins_of ns) 0 (place_of ns j d) to.named = subst (λ x. LeadsTo (origins_of ns) 0 x to.named) p to.leads in
    let at = stands_at ns to.named (lead_in_tree ns from.origins (place_of ns j d) to.named (has_place ns j d less) from.leads) in
    let room = at.within in
    let run = (forest_run ns forest at.at j d room less).1 (subst (λ x. LeadsTo (origins_of ns) 0 (place_of ns j d) x) (sym (at.is d)) from) in
    let parts = and_parts (nat_le at.at j) (nat_lt j (at.at + 1 + run_at ns at.at)) run in
    let named : list_any (same_place (place_of ns at.at d)) places ≡ true = ap (λ x. list_any (same_place x) places) (at.is d) ∙ to.among in
    (so_far.has at.at d (omega (arith, room, all)) named).1 j (leb-true at.at j parts.0) (ltb-true j (at.at + 1 + run_at ns at.at) parts.1)

-- behind the last node they are all
pub all_runs : (ns : List Node) (places : List Place) (runs : List (Range ℕ)) (i : ℕ) → AreSoFar ns places i runs → is_forest ns ≡ true → length ns ≤ i → AreOuterRuns (origins_of ns) places runs
all_runs ns places runs i so_far forest all = record {
  rising = rising_more 0 runs i (length (origins_of ns)) so_far.rising (let size = length-links [] ns in let upto = so_far.upto in omega (arith, size, upto));
  whole = so_far.whole;
  named = so_far.named;
  covers = λ j d within. (lies_leads ns places runs so_far.whole so_far.named j d within, leads_lies ns places runs i so_far forest all j d within);
}

-- ---- the same places in another list

module _ (os : Origins) (ps qs : List Place) (same : (p : Place) → list_any (same_place p) ps ≡ list_any (same_place p) qs) where
  leads_same : (p : Place) → LeadsToOne os ps p → LeadsToOne os qs p
  leads_same p to = record { named = to.named; among = sym (same to.named) ∙ to.among; leads = to.leads }

  leads_back : (p : Place) → LeadsToOne os qs p → LeadsToOne os ps p
  leads_back p to = record { named = to.named; among = same to.named ∙ to.among; leads = to.leads }

  -- the outermost runs are the same too
  pub outer_runs_same : (runs : List (Range ℕ)) → AreOuterRuns os ps runs → AreOuterRuns os qs runs
  outer_runs_same runs are = record {
    rising = are.rising;
    whole = are.whole;
    named = λ k d less e. sym (same (place_at os (get_or runs k d).start e)) ∙ are.named k d less e;
    covers = λ j d within. ((λ lies. leads_same (place_at os j d) ((are.covers j d within).0 lies)), λ to. (are.covers j d within).1 (leads_back (place_at os j d) to));
  }
