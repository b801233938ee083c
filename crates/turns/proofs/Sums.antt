-- Sums of counts over seats.
use Rattle.std.proofs.Common.{◌≡◌, ℕ, zero, suc, ◌+◌, ◌<◌, ◌≤◌, Bool, true, false, List, [], ◌∷◌, ◌++◌, set, refl, ap, ◌∙◌, sym, arith, zero-add, if◌then◌else◌}
use Rattle.std.specs.Prelude.{◌==◌}
use mathlib.Core.Option.{some, some-ne-none, some-injective}
use lib.ListN.{get_elem?}
use Rattle.turns.specs.Views.{count_in, names_in, counted, named}
use Rattle.turns.specs.declared.view.View.{View}

-- ---- one seat

pub count_append : (p : ℕ) (cs ds : List (ℕ × ℕ)) → count_in p (cs ++ ds) ≡ count_in p cs + count_in p ds
count_append p [] ds = sym (zero-add (count_in p ds))
count_append p (c ∷ cs) ds =
    let a : ℕ = if c.0 == p then c.1 else 0 in let b : ℕ = count_in p (cs ++ ds) in let x : ℕ = count_in p cs in let y : ℕ = count_in p ds in let m : b ≡ x + y = count_append p cs ds in omega arith

pub names_append : (p : ℕ) (cs ds : List (ℕ × ℕ)) → names_in p (cs ++ ds) ≡ names_in p cs + names_in p ds
names_append p [] ds = sym (zero-add (names_in p ds))
names_append p (c ∷ cs) ds =
    let a : ℕ = if c.0 == p then 1 else 0 in let b : ℕ = names_in p (cs ++ ds) in let x : ℕ = names_in p cs in let y : ℕ = names_in p ds in let m : b ≡ x + y = names_append p cs ds in omega arith

-- a piece that is not named counts nothing
pub unnamed : (p : ℕ) (cs : List (ℕ × ℕ)) → names_in p cs ≡ 0 → count_in p cs ≡ 0
unnamed p [] h = refl
unnamed p (c ∷ cs) h = by (c.0 == p) h (unnamed p cs)
  where
    by : (t : Bool) → (if t then 1 else 0) + names_in p cs ≡ 0 → (names_in p cs ≡ 0 → count_in p cs ≡ 0) → (if t then c.1 else 0) + count_in p cs ≡ 0
    by true h later = absurd (omega (arith, h))
    by false h later = zero-add (count_in p cs) ∙ later (sym (zero-add (names_in p cs)) ∙ h)

-- ---- all seats

pub all_unnamed : (p : ℕ) (vs : List View) → named vs p ≡ 0 → counted vs p ≡ 0
all_unnamed p [] h = refl
all_unnamed p (v ∷ vs) h =
    let a : ℕ = names_in p v.counts in let b : ℕ = named vs p in let h' : a + b ≡ 0 = h in let a0 : a ≡ 0 = omega arith in let b0 : b ≡ 0 = omega arith in
    let x : ℕ = count_in p v.counts in let y : ℕ = counted vs p in let x0 : x ≡ 0 = unnamed p v.counts a0 in let y0 : y ≡ 0 = all_unnamed p vs b0 in omega arith

-- one view changes
pub counted_set : (p : ℕ) (vs : List View) (k : ℕ) (v w : View) → get_elem? vs k ≡ some v → counted (set vs k w) p + count_in p v.counts ≡ counted vs p + count_in p w.counts
counted_set p [] k v w at = absurd (some-ne-none v (sym at))
counted_set p (u ∷ vs) zero v w at =
    let is : count_in p u.counts ≡ count_in p v.counts = ap (λ (x : View). count_in p x.counts) (some-injective u v at) in
    let a : ℕ = count_in p w.counts in let b : ℕ = counted vs p in let c : ℕ = count_in p u.counts in let d : ℕ = count_in p v.counts in let is' : c ≡ d = is in omega arith
counted_set p (u ∷ vs) (suc k) v w at =
    let a : ℕ = count_in p u.counts in let b : ℕ = counted (set vs k w) p in let c : ℕ = count_in p v.counts in let d : ℕ = counted vs p in let f : ℕ = count_in p w.counts in
    let m : b + c ≡ d + f = counted_set p vs k v w at in omega arith

pub named_set : (p : ℕ) (vs : List View) (k : ℕ) (v w : View) → get_elem? vs k ≡ some v → named (set vs k w) p + names_in p v.counts ≡ named vs p + names_in p w.counts
named_set p [] k v w at = absurd (some-ne-none v (sym at))
named_set p (u ∷ vs) zero v w at =
    let is : names_in p u.counts ≡ names_in p v.counts = ap (λ (x : View). names_in p x.counts) (some-injective u v at) in
    let a : ℕ = names_in p w.counts in let b : ℕ = named vs p in let c : ℕ = names_in p u.counts in let d : ℕ = names_in p v.counts in let is' : c ≡ d = is in omega arith
named_set p (u ∷ vs) (suc k) v w at =
    let a : ℕ = names_in p u.counts in let b : ℕ = named (set vs k w) p in let c : ℕ = names_in p v.counts in let d : ℕ = named vs p in let f : ℕ = names_in p w.counts in
    let m : b + c ≡ d + f = named_set p vs k v w at in omega arith

-- one view more
pub counted_append : (p : ℕ) (vs : List View) (w : View) → counted (vs ++ w ∷ []) p ≡ counted vs p + count_in p w.counts
counted_append p [] w = let a : ℕ = count_in p w.counts in omega arith
counted_append p (v ∷ vs) w =
    let a : ℕ = count_in p v.counts in let b : ℕ = counted (vs ++ w ∷ []) p in let c : ℕ = counted vs p in let d : ℕ = count_in p w.counts in let m : b ≡ c + d = counted_append p vs w in omega arith

pub named_append : (p : ℕ) (vs : List View) (w : View) → named (vs ++ w ∷ []) p ≡ named vs p + names_in p w.counts
named_append p [] w = let a : ℕ = names_in p w.counts in omega arith
named_append p (v ∷ vs) w =
    let a : ℕ = names_in p v.counts in let b : ℕ = named (vs ++ w ∷ []) p in let c : ℕ = named vs p in let d : ℕ = names_in p w.counts in let m : b ≡ c + d = named_append p vs w in omega arith

-- ---- a piece that one seat has

-- what one seat names all name
pub within : (p : ℕ) (vs : List View) (k : ℕ) (v : View) → get_elem? vs k ≡ some v → names_in p v.counts ≤ named vs p
within p [] k v at = absurd (some-ne-none v (sym at))
within p (u ∷ vs) zero v at =
    let a : ℕ = names_in p u.counts in let b : ℕ = named vs p in let c : ℕ = names_in p v.counts in let same : a ≡ c = ap (λ (x : View). names_in p x.counts) (some-injective u v at) in omega arith
within p (u ∷ vs) (suc k) v at = let a : ℕ = names_in p u.counts in let b : ℕ = named vs p in let c : ℕ = names_in p v.counts in let m : c ≤ b = within p vs k v at in omega arith

-- what one seat names it counts alone, where no piece is with two
pub only_here : (p : ℕ) (vs : List View) (k : ℕ) (v : View) → get_elem? vs k ≡ some v → named vs p ≤ 1 → 0 < names_in p v.counts → counted vs p ≡ count_in p v.counts
only_here p [] k v at one names = absurd (some-ne-none v (sym at))
only_here p (u ∷ vs) zero v at one names =
    let is = some-injective u v at in
    let a : ℕ = names_in p u.counts in let a' : ℕ = names_in p v.counts in let same : a ≡ a' = ap (λ (x : View). names_in p x.counts) is in
    let b : ℕ = named vs p in let one' : a + b ≤ 1 = one in let some' : 0 < a' = names in let b0 : b ≡ 0 = omega arith in
    let y : ℕ = counted vs p in let y0 : y ≡ 0 = all_unnamed p vs b0 in
    let x : ℕ = count_in p u.counts in let z : ℕ = count_in p v.counts in let same' : x ≡ z = ap (λ (x : View). count_in p x.counts) is in
    omega arith
only_here p (u ∷ vs) (suc k) v at one names =
    let a : ℕ = names_in p u.counts in let b : ℕ = named vs p in let n : ℕ = names_in p v.counts in
    let inside : n ≤ b = within p vs k v at in
    let one' : a + b ≤ 1 = one in let some' : 0 < n = names in let a0 : a ≡ 0 = omega arith in
    let x : ℕ = count_in p u.counts in let x0 : x ≡ 0 = unnamed p u.counts a0 in
    let y : ℕ = counted vs p in let z : ℕ = count_in p v.counts in let m : y ≡ z = only_here p vs k v at (omega arith) names in
    omega arith
