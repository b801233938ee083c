-- A tree without the places that have no entry.
use Rattle.std.proofs.Common.{◌≡◌, ℕ, zero, suc, ◌+◌, ◌-◌, ◌<◌, ◌≤◌, true, false, Bool, not, Option, None, List, [], ◌∷◌, ◌++◌, length, drop, take, get_or, filter, refl, sym, ap, ◌∙◌, arith}
use Rattle.std.specs.Prelude.{Result, Ok, Err, OnOk}
use Rattle.std.specs.List.{list_all, slice_range}
use Rattle.std.proofs.lemmas.List.{get_or-drop, get_or-take, length-drop, length-take}
use Rattle.std.proofs.lemmas.List.Elements.{filter-append}
use Rattle.std.proofs.lemmas.List.Folds.{list_all-append, list_all_at, list_all_more, drop_split}
use Rattle.std.proofs.lemmas.Bool.{and_from, and_parts, not-true}
use Rattle.std.specs.declared.ops.Range.{Range}
use Rattle.space.specs.declared.place.Place.{Place}
use Rattle.maptree.specs.Origins.{Origins, place_at, AreRising}
use Rattle.maptree.specs.Cuts.{outside}
use Rattle.maptree.proofs.Cuttings.{take_more as take_further}

-- what follows from what holds of a success
pub on_ok : {E P Q : Type 0} (r : Result (Unit {0}) E) → OnOk r P → (P → Q) → OnOk r Q
on_ok (Ok x) p f = f p
on_ok (Err e) p f = tt

-- ---- a tree of which nothing is gone

-- the place at a position is that of the pair there
pub read_at : (os : Origins) (i : ℕ) (d : Place) → (get_or os i (d, None)).0 ≡ place_at os i d
read_at [] i d = refl
read_at (o ∷ os) zero d = refl
read_at (o ∷ os) (suc i) d = read_at os i d

-- tests of the places of a range of positions
module _ (test : Place → Bool) (os : Origins) where
  -- the place at a position behind the start
  test_at : (a i : ℕ) (d : Place) → a ≤ i → test (get_or (drop a os) (i - a) (d, None)).0 ≡ test (place_at os i d)
  test_at a i d least =
      let whole : a + (i - a) ≡ i = omega (arith, least) in
      ap (λ o. test o.0) (get_or-drop a os (i - a) (d, None) ∙ ap (λ j. get_or os j (d, None)) whole) ∙ ap test (read_at os i d)

  -- one place more passes
  pub range_passes : (a i : ℕ) (d : Place) → a ≤ i → i < length os → list_all (λ o. test o.0) (slice_range os a i) ≡ true → test (place_at os i d) ≡ true → list_all (λ o. test o.0) (slice_range os a (i + 1)) ≡ true
  range_passes a i d least within so_far is =
      let size = length-drop a os in
      let more : i + 1 - a ≡ i - a + 1 = omega (arith, least) in
      ap (λ n. list_all (λ (o : Place × Option Place). test o.0) (take n (drop a os))) more
      ∙ list_all_more (λ o. test o.0) (drop a os) (i - a) (d, None) (omega (arith, size, least, within))
      ∙ and_from _ _ so_far (test_at a i d least ∙ is)

  -- one place does not pass
  pub range_fails : (a i b : ℕ) (d : Place) → a ≤ i → i < b → b ≤ length os → test (place_at os i d) ≡ false → list_all (λ o. test o.0) (slice_range os a b) ≡ false
  range_fails a i b d least less within is =
      let size = length-drop a os in
      let long = length-take (b - a) (drop a os) in
      list_all_at (λ o. test o.0) (slice_range os a b) (i - a) (d, None) (omega (arith, size, long, least, less, within))
      (ap (λ o. test o.0) (get_or-take (b - a) (drop a os) (i - a) (d, None) (omega (arith, least, less))) ∙ test_at a i d least ∙ is)

  -- where the places in runs pass, and those outside of them, all pass
  pub none_gone : (from : ℕ) (runs : List (Range ℕ)) → AreRising from runs (length os) → list_all (λ r. list_all (λ o. test o.0) (slice_range os r.start r.end)) runs ≡ true → list_all (λ o. test o.0) (outside from runs os) ≡ true → list_all (λ o. test o.0) (drop from os) ≡ true
  none_gone from [] rise inside out = out
  none_gone from (r ∷ rs) rise inside out =
      let within = and_parts _ _ inside in
      let before = and_parts _ _ (sym (list_all-append (λ o. test o.0) (slice_range os from r.start) (outside r.end rs os)) ∙ out) in
      ap (list_all (λ o. test o.0)) (drop_split os from r.start rise.0)
      ∙ list_all-append (λ o. test o.0) (slice_range os from r.start) (drop r.start os)
      ∙ and_from _ _ before.0
      (ap (list_all (λ o. test o.0)) (drop_split os r.start r.end (omega (arith, rise.1)))
      ∙ list_all-append (λ o. test o.0) (slice_range os r.start r.end) (drop r.end os)
      ∙ and_from _ _ within.0 (none_gone r.end rs rise.2 within.1 before.1))

-- a filter that all pass keeps all
pub all_pass : {A : Type 0} (test : A → Bool) (xs : List A) → list_all test xs ≡ true → filter test xs ≡ xs
all_pass test [] all = refl
all_pass test (x ∷ xs) all = let parts = and_parts (test x) (list_all test xs) all in rw parts.0 (ap (λ ys. x ∷ ys) (all_pass test xs parts.1))

-- a filter that none passes keeps nothing
none_pass : {A : Type 0} (test : A → Bool) (xs : List A) → list_all (λ x. not (test x)) xs ≡ true → filter test xs ≡ []
none_pass test [] none = refl
none_pass test (x ∷ xs) none = let parts = and_parts (not (test x)) (list_all (λ y. not (test y)) xs) none in rw (not-true _ parts.0) (none_pass test xs parts.1)

-- where no place in runs passes, and those outside of them do, these are left
pub all_gone : (test : Place → Bool) (os : Origins) (from : ℕ) (runs : List (Range ℕ)) → AreRising from runs (length os) → list_all (λ r. list_all (λ o. not (test o.0)) (slice_range os r.start r.end)) runs ≡ true
    → list_all (λ o. test o.0) (outside from runs os) ≡ true → filter (λ o. test o.0) (drop from os) ≡ outside from runs os
all_gone test os from [] rise inside out = all_pass (λ o. test o.0) (drop from os) out
all_gone test os from (r ∷ rs) rise inside out =
    let within = and_parts _ _ inside in
    let before = and_parts _ _ (sym (list_all-append (λ o. test o.0) (slice_range os from r.start) (outside r.end rs os)) ∙ out) in
    ap (filter (λ o. test o.0)) (drop_split os from r.start rise.0)
    ∙ filter-append (λ o. test o.0) (slice_range os from r.start) (drop r.start os)
    ∙ ap (λ xs. xs ++ filter (λ o. test o.0) (drop r.start os)) (all_pass (λ o. test o.0) (slice_range os from r.start) before.0)
    ∙ ap (λ xs. slice_range os from r.start ++ xs) (ap (filter (λ o. test o.0)) (drop_split os r.start r.end (omega (arith, rise.1)))
    ∙ filter-append (λ o. test o.0) (slice_range os r.start r.end) (drop r.end os)
    ∙ ap (λ xs. xs ++ filter (λ o. test o.0) (drop r.end os)) (none_pass (λ o. test o.0) (slice_range os r.start r.end) within.0)
    ∙ all_gone test os r.end rs rise.2 within.1 before.1)

-- where all outside a run pass, and some in front of it, all outside of what is behind these pass
pub outside_end : {A : Type 0} (test : A → Bool) (os : List A) (r : Range ℕ) (at : ℕ) → r.start ≤ at → list_all test (outside 0 (r ∷ []) os) ≡ true → list_all test (slice_range os r.start at) ≡ true
    → list_all test (outside 0 (record { start = at; end = r.end } ∷ []) os) ≡ true
outside_end test os r at from out held =
    let parts = and_parts _ _ (sym (list_all-append test (slice_range os 0 r.start) (drop r.end os)) ∙ out) in
    let whole : at - 0 ≡ at = omega arith in
    let first : r.start ≡ r.start - 0 = omega arith in
    let front : slice_range os 0 at ≡ slice_range os 0 r.start ++ slice_range os r.start at = ap (λ n. take n os) whole ∙ take_further r.start at os from ∙ ap (λ n. take n os ++ slice_range os r.start at) first in
    list_all-append test (slice_range os 0 at) (drop r.end os) ∙ and_from _ _ (ap (list_all test) front ∙ list_all-append test (slice_range os 0 r.start) (slice_range os r.start at) ∙ and_from _ _ parts.0 held) parts.1
