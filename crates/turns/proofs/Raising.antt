-- The shared words after one step more.
use Rattle.std.proofs.Common.{◌≡◌, ◌≢◌, ℕ, zero, suc, ◌+◌, ◌<◌, ◌≤◌, Bool, true, false, ◌&&◌, not, List, [], ◌∷◌, ◌++◌, map, set, get_or, Option, Some, None, refl, ap, ◌∙◌, sym, subst, arith, zero-add}
use Rattle.std.specs.Prelude.{◌==◌, slice_get}
use Rattle.std.specs.Option.{option_and_then}
use Rattle.std.proofs.lemmas.Bool.{eq-eqb, true≢false}
use Rattle.pieces.specs.Distinct.{is_none_of, are_distinct}
use Rattle.pieces.specs.Effects.{Effect, word_after}
use Rattle.turns.specs.Writers.{writers, adders, all_writers, all_adders}
use Rattle.turns.specs.Rules.{steps_in, word_in, words_in, IsOpening, index_of, made, next_step}
use Rattle.turns.specs.declared.view.Opening.{Opening}
use Rattle.turns.proofs.Insertions.{done_writers, done_adders, other_word, this_word, step_inserted}

both : (a b : Bool) → (a && b) ≡ true → (a ≡ true) × (b ≡ true)
both true true h = (refl, refl)
both true false h = absurd (cc)
both false b h = absurd (cc)

-- a number that is none of these is not that of one of them
none_at : (at : List ℕ) (x j i : ℕ) → is_none_of at x ≡ true → slice_get at j ≡ Some i → x ≢ i
none_at [] x j i none there = absurd (cc)
none_at (y ∷ at) x zero i none there = λ same. let is : y ≡ i = cc in true≢false (sym (both (not (y == x)) (is_none_of at x) none).0 ∙ ap not (eq-eqb y x (is ∙ sym same)))
none_at (y ∷ at) x (suc j) i none there = none_at at x j i (both (not (y == x)) (is_none_of at x) none).1 there

-- functions that differ at one number
same_map : (f g : ℕ → ℕ) (at : List ℕ) (i : ℕ) → is_none_of at i ≡ true → ((k : ℕ) → k ≢ i → g k ≡ f k) → map g at ≡ map f at
same_map f g [] i none same = refl
same_map f g (x ∷ at) i none same =
    let parts = both (not (x == i)) (is_none_of at i) none in
    ap (λ y. y ∷ map g at) (same x (λ is. true≢false (sym parts.0 ∙ ap not (eq-eqb x i is)))) ∙ ap (λ ys. f x ∷ ys) (same_map f g at i parts.1 same)

map_set : (f g : ℕ → ℕ) (at : List ℕ) (j i : ℕ) → are_distinct at ≡ true → slice_get at j ≡ Some i → ((k : ℕ) → k ≢ i → g k ≡ f k) → map g at ≡ set (map f at) j (g i)
map_set f g [] j i once there same = absurd (cc)
map_set f g (x ∷ at) zero i once there same =
    let is : x ≡ i = cc in
    let parts = both (is_none_of at x) (are_distinct at) once in
    ap (λ k. g k ∷ map g at) is ∙ ap (λ ys. g i ∷ ys) (same_map f g at i (ap (is_none_of at) (sym is) ∙ parts.0) same)
map_set f g (x ∷ at) (suc j) i once there same =
    let parts = both (is_none_of at x) (are_distinct at) once in
    ap (λ y. y ∷ map g at) (same x (none_at at x j i parts.0 there)) ∙ ap (λ ys. f x ∷ ys) (map_set f g at j i parts.1 there same)

pub map_here : (f : ℕ → ℕ) (at : List ℕ) (j i : ℕ) → slice_get at j ≡ Some i → get_or (map f at) j 0 ≡ f i
map_here f [] j i there = absurd (cc)
map_here f (x ∷ at) zero i there = let is : x ≡ i = cc in ap f is
map_here f (x ∷ at) (suc j) i there = map_here f at j i there

pub index_here : (at : List ℕ) (j i : ℕ) → slice_get at j ≡ Some i → get_or at j 0 ≡ i
index_here [] j i there = absurd (cc)
index_here (x ∷ at) zero i there = cc
index_here (x ∷ at) (suc j) i there = index_here at j i there

-- the next step of some pieces is one of the first of them
pub record IsFirst (o : Opening) (cs : List (ℕ × ℕ)) (e : Effect) : Type 0 where
  pub first : ℕ × ℕ
  pub others : List (ℕ × ℕ)
  pub are : cs ≡ first ∷ others
  pub steps : List Effect
  pub of : slice_get (steps_in o) first.0 ≡ Some steps
  pub step : slice_get steps first.1 ≡ Some e

pub first_step : (o : Opening) (cs : List (ℕ × ℕ)) (e : Effect) → next_step o cs ≡ Some e → IsFirst o cs e
first_step o [] e h = absurd (cc)
first_step o (c ∷ cs) e h = by (slice_get (steps_in o) c.0) refl h
  where
    by : (found : Option (List Effect)) → slice_get (steps_in o) c.0 ≡ found → option_and_then (λ es. slice_get es c.1) found ≡ Some e → IsFirst o (c ∷ cs) e
    by None is h = absurd (cc)
    by (Some es) is h = record { first = c; others = cs; are = refl; steps = es; of = is; step = h }

-- the words after one step more: the one that the step is about is what it makes of it
pub words_raised : (o : Opening) → IsOpening o → (counts more : ℕ → ℕ) (p j : ℕ) (es : List Effect) (e : Effect) → slice_get (steps_in o) p ≡ Some es → slice_get es (counts p) ≡ Some e
    → more p ≡ suc (counts p) → ((q : ℕ) → q ≢ p → more q ≡ counts q) → slice_get o.indexes j ≡ Some (index_of e)
    → words_in o more ≡ set (words_in o counts) j (made e (get_or (words_in o counts) j 0))
words_raised o is counts more p j es e at step one others position =
    let i : ℕ = index_of e in
    let from : 0 + p ≡ p = zero-add p in
    let t = step_inserted 0 p counts more (steps_in o) es e at (ap (λ n. slice_get es (counts n)) from ∙ step) (ap more from ∙ one ∙ ap (λ n. suc (counts n)) (sym from)) (λ q apart. others q (λ is. apart (is ∙ sym from))) in
    let all : ℕ = all_writers i (steps_in o) in
    let adding : ℕ = all_adders i (steps_in o) in
    let n : ℕ = writers i (t.0 ++ e ∷ t.1) in
    let m : ℕ = adders i (t.0 ++ e ∷ t.1) in
    let fewer : n ≤ all = subst (λ fs. writers i fs ≤ all_writers i (steps_in o)) t.3 (done_writers i 0 more (steps_in o)) in
    let less : m ≤ adding = subst (λ fs. adders i fs ≤ all_adders i (steps_in o)) t.3 (done_adders i 0 more (steps_in o)) in
    let one_writer : all ≤ 1 = is.apart.one i in
    let alone : 0 < n → m ≡ 0 = λ some. let none : adding ≡ 0 = is.apart.alone i (omega (arith, some, fewer)) in omega (arith, less, none) in
    let here : word_in o more i ≡ made e (word_in o counts i) =
    ap (word_after (get_or o.words i 0) i) t.3 ∙ this_word (get_or o.words i 0) e t.0 t.1 (omega (arith, fewer, one_writer)) alone ∙ ap (λ fs. made e (word_after (get_or o.words i 0) i fs)) (sym t.2) in
    let apart : (k : ℕ) → k ≢ i → word_in o more k ≡ word_in o counts k =
    λ k other. ap (word_after (get_or o.words k 0) k) t.3 ∙ other_word (get_or o.words k 0) k e t.0 t.1 other ∙ ap (word_after (get_or o.words k 0) k) (sym t.2) in
    map_set (word_in o counts) (word_in o more) o.indexes j i is.distinct position apart ∙ ap (set (words_in o counts) j) (here ∙ ap (made e) (sym (map_here (word_in o counts) o.indexes j i position)))
