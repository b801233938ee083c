-- Positions of named places, found one by one, and the outermost runs of the nodes there.
use Rattle.std.proofs.Common.{◌≡◌, ℕ, ◌+◌, ◌-◌, ◌<◌, ◌≤◌, true, Bool, ◌||◌, List, [], ◌∷◌, ◌++◌, length, take, drop, get_or, Some, None, sym, ap, ◌∙◌, subst, arith, ◌⊎◌, inl, inr}
use Rattle.std.specs.Prelude.{position}
use Rattle.std.specs.List.{All, Contains, list_any}
use Rattle.std.specs.List.Sorted.{IsNonDecreasing, IsPermutation}
use Rattle.std.specs.declared.ops.Range.{Range}
use Rattle.std.proofs.lemmas.Bool.{or_cases}
use Rattle.std.proofs.lemmas.List.{get_or_default, take_all, length-drop}
use Rattle.std.proofs.lemmas.List.Elements.{All-push, All-weaker, All-nil, Contains-get_or, Contains-append_left, Contains-append_right}
use Rattle.std.proofs.lemmas.List.Folds.{list_any_more}
use Rattle.std.proofs.lemmas.List.Quantifiers.{position-Some}
use Rattle.std.proofs.lemmas.List.Sorted.{All-permutation, Contains-permutation}
use Rattle.space.specs.declared.place.Place.{Place}
use Rattle.space.specs.Place.{same_place}
use Rattle.space.proofs.Places.{same_is, same_self}
use Rattle.space.specs.declared.node.Node.{Node}
use Rattle.maptree.specs.Nodes.{are_distinct, is_forest, origins_of, run_len}
use Rattle.maptree.specs.Named.{ArePositions}
use Rattle.maptree.specs.Origins.{AreOuterRuns}
use Rattle.maptree.proofs.Runs.{place_of}
use Rattle.maptree.proofs.Positions.{one_position, place_of_read}
use Rattle.maptree.proofs.Searches.{none_stands}
use Rattle.maptree.proofs.Outermost.{AreSoFar, pass_to, one_more_run, all_runs}
use Rattle.space.proofs.Lists.{blank}

abbrev Inside : List Node → ℕ → Type 0
Inside ns k = k < length ns

abbrev IsNamed : List Node → List Place → ℕ → Type 0
IsNamed ns places k = (d : Node) → list_any (same_place (get_or ns k d).place) places ≡ true

-- no place is named yet
pub no_positions : (ns : List Node) → ArePositions ns [] []
no_positions ns = record { within = All-nil (Inside ns); named = All-nil (IsNamed ns []); all = λ k d less named. absurd (cc named) }

or_first : (a b : Bool) → a ≡ true → (a || b) ≡ true
or_first a b is = grind arith

or_second : (a b : Bool) → b ≡ true → (a || b) ≡ true
or_second a b is = grind arith

-- one place more is named
module _ (ns : List Node) (distinct : are_distinct ns ≡ true) (places : List Place) (i : ℕ) (p : Place) (within : i < length places) (is : p ≡ get_or places i p) where
  named_more : (q : Place) → list_any (same_place q) (take (i + 1) places) ≡ (list_any (same_place q) (take i places) || same_place q p)
  named_more q = list_any_more (same_place q) places i p within ∙ ap (λ x. list_any (same_place q) (take i places) || same_place q x) (sym is)

  still_named : (at : List ℕ) → All (IsNamed ns (take i places)) at → All (IsNamed ns (take (i + 1) places)) at
  still_named at all = All-weaker (IsNamed ns (take i places)) (IsNamed ns (take (i + 1) places)) (λ k named d. named_more (get_or ns k d).place ∙ or_first _ _ (named d)) at all

  -- it stands at a position
  pub one_found : (at : List ℕ) (k : ℕ) → ArePositions ns (take i places) at → position (λ n. same_place p n.place) ns ≡ Some k → ArePositions ns (take (i + 1) places) (at ++ k ∷ [])
  one_found at k are found = record {
    within = All-push (Inside ns) at k are.within (position-Some (λ (n : Node). same_place p n.place) ns k blank found).0;
    named = All-push (IsNamed ns (take (i + 1) places)) at k (still_named at are.named) here;
    all = λ j d less named. by j d less (or_cases _ _ (sym (named_more (get_or ns j d).place) ∙ named));
  }
    where
      place_is : (d : Node) → p ≡ (get_or ns k d).place
      place_is d = same_is p (get_or ns k d).place (position-Some (λ (n : Node). same_place p n.place) ns k d found).1

      here : (d : Node) → list_any (same_place (get_or ns k d).place) (take (i + 1) places) ≡ true
      here d = named_more (get_or ns k d).place ∙ or_second _ _ (ap (λ q. same_place q p) (sym (place_is d)) ∙ same_self p)

      inside : k < length ns
      inside = (position-Some (λ (n : Node). same_place p n.place) ns k blank found).0

      by : (j : ℕ) (d : Node) → j < length ns → (list_any (same_place (get_or ns j d).place) (take i places) ≡ true) ⊎ (same_place (get_or ns j d).place p ≡ true) → Contains (at ++ k ∷ []) j
      by j d less (inl before) = Contains-append_left at (k ∷ []) j (are.all j d less before)
      by j d less (inr same) =
          let other : (get_or ns j d).place ≡ p = same_is (get_or ns j d).place p same in
          let one : j ≡ k = one_position ns distinct j k p p less inside (place_of_read ns j p d less ∙ other ∙ place_is d ∙ sym (place_of_read ns k p d inside)) in
          Contains-append_right at (k ∷ []) j (subst (Contains (k ∷ [])) (sym one) (Contains-get_or (k ∷ []) 0 k (omega arith)))

  -- or nowhere
  pub one_absent : (at : List ℕ) → ArePositions ns (take i places) at → position (λ n. same_place p n.place) ns ≡ None → ArePositions ns (take (i + 1) places) at
  one_absent at are none = record {
    within = are.within;
    named = still_named at are.named;
    all = λ j d less named. by j d less (or_cases _ _ (sym (named_more (get_or ns j d).place) ∙ named));
  }
    where
      by : (j : ℕ) (d : Node) → j < length ns → (list_any (same_place (get_or ns j d).place) (take i places) ≡ true) ⊎ (same_place (get_or ns j d).place p ≡ true) → Contains at j
      by j d less (inl before) = are.all j d less before
      by j d less (inr same) =
          let other : (get_or ns j d).place ≡ p = same_is (get_or ns j d).place p same in
          let there : same_place p (get_or ns j d).place ≡ true = ap (same_place p) other ∙ same_self p in
          absurd (cc (there, none_stands (λ (n : Node). same_place p n.place) ns none j d less))

-- in another order
pub sorted_positions : (ns : List Node) (places : List Place) (at sorted : List ℕ) → ArePositions ns places at → IsPermutation at sorted → ArePositions ns places sorted
sorted_positions ns places at sorted are moved = record {
  within = All-permutation (Inside ns) at sorted moved are.within;
  named = All-permutation (IsNamed ns places) at sorted moved are.named;
  all = λ k d less named. Contains-permutation at sorted k moved (are.all k d less named);
}

-- the outermost runs of the nodes at the first positions, which end by this number
pub record AreRunsTo (ns : List Node) (places : List Place) (at : List ℕ) (m end : ℕ) (runs : List (Range ℕ)) : Type 0 where
  pub so_far : AreSoFar ns places end runs
  pub passed : (a : ℕ) (d : ℕ) → a < m → a < length at → get_or at a d < end

module _ (ns : List Node) (places : List Place) (at : List ℕ) (m end : ℕ) (runs : List (Range ℕ)) (are : ArePositions ns places at) (rising : IsNonDecreasing at) (to : AreRunsTo ns places at m end runs) where
  -- no named node stands between the end and the next position
  none_before : (i : ℕ) → ((a d : ℕ) → m ≤ a → a < length at → i ≤ get_or at a d) → i ≤ length ns → (k : ℕ) (d : Place) → end ≤ k → k < i → list_any (same_place (place_of ns k d)) places ≡ true → ⊥
  none_before i next most k d from less named =
      let within : k < length ns = omega (arith, less, most) in
      let found = are.all k blank within (ap (λ q. list_any (same_place q) places) (sym (place_of_read ns k d blank within)) ∙ named) in
      by found.0 found.1 found.2 (order found.0)
    where
      order : (a : ℕ) → (a < m) ⊎ (m ≤ a)
      order a = grind arith

      by : (a : ℕ) → a < length at → get_or at a k ≡ k → (a < m) ⊎ (m ≤ a) → ⊥
      by a inside is (inl before) = let h = to.passed a k before inside in absurd (omega (arith, h, is, from))
      by a inside is (inr behind) = let h = next a k behind inside in absurd (omega (arith, h, is, less))

  -- the next position is in the last run
  pub inside_run : (i : ℕ) → m < length at → i ≡ get_or at m i → i < end → AreRunsTo ns places at (m + 1) end runs
  inside_run i within is less = record { so_far = to.so_far; passed = λ a d before inside. by a d inside (order a before) }
    where
      order : (a : ℕ) → a < m + 1 → (a < m) ⊎ (a ≡ m)
      order a before = grind arith

      by : (a d : ℕ) → a < length at → (a < m) ⊎ (a ≡ m) → get_or at a d < end
      by a d inside (inl before) = to.passed a d before inside
      by a d inside (inr same) = let here = ap (λ k. get_or at k d) same ∙ get_or_default at m d i within in omega (arith, here, is, less)

  -- or it has a run of its own
  pub next_run : (i r : ℕ) (n : Node) → is_forest ns ≡ true → m < length at → i ≡ get_or at m i → end ≤ i → n ≡ get_or ns i n → r ≡ run_len n.depth (drop (i + 1) ns)
      → AreRunsTo ns places at (m + 1) (i + 1 + r) (runs ++ record { start = i; end = i + 1 + r } ∷ [])
  next_run i r n forest within is behind read run = record {
    so_far = one_more_run ns places i r n runs reached forest inside_ns read named run_is_so;
    passed = λ a d before inside. by a d inside (order a before);
  }
    where
      inside_ns : i < length ns
      inside_ns = subst (λ k. k < length ns) (sym is) (are.within m i within)

      at_m : (a d : ℕ) → m ≤ a → a < length at → i ≤ get_or at a d
      at_m a d from inside = let h = rising m a d from inside in let here = get_or_default at m d i within in omega (arith, h, here, is)

      reached : AreSoFar ns places i runs
      reached = pass_to ns places end i runs to.so_far behind (omega (arith, inside_ns)) (none_before i at_m (omega (arith, inside_ns)))

      named : list_any (same_place n.place) places ≡ true
      named = ap (λ (x : Node). list_any (same_place x.place) places) read ∙ ap (λ k. list_any (same_place (get_or ns k n).place) places) is ∙ are.named m i within n

      run_is_so : r ≡ run_len n.depth (take (length ns - (i + 1)) (drop (i + 1) ns))
      run_is_so = run ∙ ap (run_len n.depth) (sym (take_all (length ns - (i + 1)) (drop (i + 1) ns) (let size = length-drop (i + 1) ns in omega (arith, size))))

      order : (a : ℕ) → a < m + 1 → (a < m) ⊎ (a ≡ m)
      order a before = grind arith

      by : (a d : ℕ) → a < length at → (a < m) ⊎ (a ≡ m) → get_or at a d < i + 1 + r
      by a d inside (inl before) = let h = to.passed a d before inside in omega (arith, h, behind)
      by a d inside (inr same) = let here = ap (λ k. get_or at k d) same ∙ get_or_default at m d i within in omega (arith, here, is)

  -- behind the last position
  pub runs_of_all : is_forest ns ≡ true → length at ≤ m → AreOuterRuns (origins_of ns) places runs
  runs_of_all forest all =
      let upto = to.so_far.upto in
      all_runs ns places runs (length ns) (pass_to ns places end (length ns) runs to.so_far upto (omega arith) (none_before (length ns) (λ a d from inside. absurd (omega (arith, all, from, inside))) (omega arith))) forest (omega arith)
