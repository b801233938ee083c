-- Where a bit of a shared word comes from.
use Rattle.std.proofs.Common.{◌≡◌, ◌⊎◌, inl, inr, ⊎_elim, ℕ, zero, suc, ◌+◌, ◌<◌, ◌≤◌, Bool, true, false, List, [], ◌∷◌, take, get_or, Some, bit_or, unwrap_or, refl, ap, ◌∙◌, sym, subst, arith, zero-add, if◌then◌else◌}
use Rattle.std.specs.Prelude.{◌↔◌, ◌==◌, slice_get}
use Rattle.std.specs.Int.{bit_at}
use Rattle.std.proofs.lemmas.Bool.{eq-eqb, eqb-true}
use Rattle.std.proofs.lemmas.Nat.Bits.{bit_at-zero, bit_at_or, bit_at-lt}
use Rattle.pieces.specs.Effects.{Effect, keeps, adds, writes, bits_at, gained, done_from, done}
use Rattle.pieces.proofs.InOrder.{gained_append}
use Rattle.turns.specs.Writers.{writers, all_writers}
use Rattle.turns.specs.Views.{counted}
use Rattle.turns.specs.Rules.{steps_in, word_in, Holds}
use Rattle.turns.specs.Laws.{IsSet, IsAddedAt}
use Rattle.turns.specs.declared.view.Opening.{Opening}
use Rattle.turns.specs.declared.view.View.{View}
use Rattle.turns.proofs.Insertions.{done_writers, written_none}
use Rattle.turns.proofs.Raising.{map_here}

-- ---- a bit of two words put together

none_set : (b : ℕ) → IsSet 0 b → ⊥
none_set b h = let x : ℕ = bit_at 0 b in let is : x ≡ 0 = bit_at-zero b in let one : x ≡ 1 = h in omega (arith, is, one)

set_left : (x y b : ℕ) → IsSet x b → IsSet (bit_or x y) b
set_left x y b h = let or = bit_at_or x y b in let small = bit_at-lt y b in omega arith

set_right : (x y b : ℕ) → IsSet y b → IsSet (bit_or x y) b
set_right x y b h = let or = bit_at_or x y b in let small = bit_at-lt x b in omega arith

set_either : (x y b : ℕ) → IsSet (bit_or x y) b → IsSet x b ⊎ IsSet y b
set_either x y b h = by (bit_at x b) refl
  where
    by : (n : ℕ) → bit_at x b ≡ n → IsSet x b ⊎ IsSet y b
    by zero is = let or = bit_at_or x y b in inr (omega arith)
    by (suc n) is = let small = bit_at-lt x b in inl (omega arith)

-- ---- the bits that steps add

-- one of the first steps of a piece adds a bit at an index
record IsAdded (i b n : ℕ) (es : List Effect) : Type 0 where
  k : ℕ
  below : k < n
  bits : ℕ
  step : slice_get es k ≡ Some (adds i bits)
  has : IsSet bits b

-- where one step adds a bit, it is a step that adds these bits there, and back
adds_bit : (i b : ℕ) (e : Effect) → IsSet (bits_at i e) b → (bits : ℕ) × (e ≡ adds i bits) × IsSet bits b
adds_bit i b (keeps j) h = absurd (none_set b h)
adds_bit i b (writes j word) h = absurd (none_set b h)
adds_bit i b (adds j bits) h = by (j == i) refl h
  where
    by : (t : Bool) → (j == i) ≡ t → IsSet (if t then bits else 0) b → (more : ℕ) × (adds j bits ≡ adds i more) × IsSet more b
    by true is h = (bits, ap (λ m. adds m bits) (eqb-true j i is), h)
    by false is h = absurd (none_set b h)

its_bit : (i b bits : ℕ) → IsSet bits b → IsSet (bits_at i (adds i bits)) b
its_bit i b bits h = subst (λ t. IsSet (if t then bits else 0) b) (sym (eq-eqb i i refl)) h

gained_added : (i b n : ℕ) (es : List Effect) → IsSet (gained i (take n es)) b → IsAdded i b n es
gained_added i b zero es h = absurd (none_set b h)
gained_added i b (suc n) [] h = absurd (none_set b h)
gained_added i b (suc n) (e ∷ es) h =
    ⊎_elim
    (λ (x : IsSet (bits_at i e) b). let one = adds_bit i b e x in record { k = 0; below = omega arith; bits = one.0; step = ap Some one.1; has = one.2 })
    (λ (x : IsSet (gained i (take n es)) b). let a : IsAdded i b n es = gained_added i b n es x in record { k = suc a.k; below = omega arith; bits = a.bits; step = a.step; has = a.has })
    (set_either (bits_at i e) (gained i (take n es)) b h)

added_gained : (i b n : ℕ) (es : List Effect) (k bits : ℕ) → k < n → slice_get es k ≡ Some (adds i bits) → IsSet bits b → IsSet (gained i (take n es)) b
added_gained i b zero es k bits below step has = absurd (omega (arith, below))
added_gained i b (suc n) [] k bits below step has = absurd (cc)
added_gained i b (suc n) (e ∷ es) zero bits below step has =
    let is : e ≡ adds i bits = cc in set_left (bits_at i e) (gained i (take n es)) b (subst (λ x. IsSet (bits_at i x) b) (sym is) (its_bit i b bits has))
added_gained i b (suc n) (e ∷ es) (suc k) bits below step has = set_right (bits_at i e) (gained i (take n es)) b (added_gained i b n es k bits (omega (arith, below)) step has)

-- ---- the steps of all pieces that were done

-- of lists of steps, which have numbers from one on, one has a step that was done and adds a bit
record IsAmong (counts : ℕ → ℕ) (i b q : ℕ) (ess : List (List Effect)) : Type 0 where
  p : ℕ
  steps : List Effect
  piece : slice_get ess p ≡ Some steps
  adds : IsAdded i b (counts (q + p)) steps

done_added : (counts : ℕ → ℕ) (i b q : ℕ) (ess : List (List Effect)) → IsSet (gained i (done_from q counts ess)) b → IsAmong counts i b q ess
done_added counts i b q [] h = absurd (none_set b h)
done_added counts i b q (es ∷ ess) h =
    ⊎_elim
    (λ (x : IsSet (gained i (take (counts q) es)) b). let here : q ≡ q + 0 = omega arith in record { p = 0; steps = es; piece = refl; adds = subst (λ m. IsAdded i b (counts m) es) here (gained_added i b (counts q) es x) })
    (λ (x : IsSet (gained i (done_from (q + 1) counts ess)) b).
    let a : IsAmong counts i b (q + 1) ess = done_added counts i b (q + 1) ess x in
    let there : (q + 1) + a.p ≡ q + suc a.p = omega arith in
    record { p = suc a.p; steps = a.steps; piece = a.piece; adds = subst (λ m. IsAdded i b (counts m) a.steps) there a.adds })
    (set_either (gained i (take (counts q) es)) (gained i (done_from (q + 1) counts ess)) b (subst (λ w. IsSet w b) (gained_append i (take (counts q) es) (done_from (q + 1) counts ess)) h))

added_done : (counts : ℕ → ℕ) (i b q : ℕ) (ess : List (List Effect)) (p : ℕ) (steps : List Effect) → slice_get ess p ≡ Some steps → IsAdded i b (counts (q + p)) steps → IsSet (gained i (done_from q counts ess)) b
added_done counts i b q [] p steps piece a = absurd (cc)
added_done counts i b q (es ∷ ess) zero steps piece a =
    let is : steps ≡ es = cc in
    let here : q + 0 ≡ q = omega arith in
    let mine : IsAdded i b (counts q) es = subst (λ m. IsAdded i b (counts m) es) here (subst (IsAdded i b (counts (q + 0))) is a) in
    subst (λ w. IsSet w b) (sym (gained_append i (take (counts q) es) (done_from (q + 1) counts ess)))
    (set_left (gained i (take (counts q) es)) (gained i (done_from (q + 1) counts ess)) b (added_gained i b (counts q) es mine.k mine.bits mine.below mine.step mine.has))
added_done counts i b q (es ∷ ess) (suc p) steps piece a =
    let there : q + suc p ≡ (q + 1) + p = omega arith in
    subst (λ w. IsSet w b) (sym (gained_append i (take (counts q) es) (done_from (q + 1) counts ess)))
    (set_right (gained i (take (counts q) es)) (gained i (done_from (q + 1) counts ess)) b (added_done counts i b (q + 1) ess p steps piece (subst (λ m. IsAdded i b (counts m) steps) there a)))

-- ---- a shared word

-- where no step writes it, it is the word at opening with the bits that were added
only_added : (o : Opening) (words : List ℕ) (views : List View) (j i : ℕ) → Holds o words views → slice_get o.indexes j ≡ Some i → all_writers i (steps_in o) ≡ 0
    → get_or words j 0 ≡ bit_or (get_or o.words i 0) (gained i (done (counted views) (steps_in o)))
only_added o words views j i h there none =
    let steps = done (counted views) (steps_in o) in
    let n : ℕ = writers i steps in
    let m : ℕ = all_writers i (steps_in o) in
    let few : n ≤ m = done_writers i 0 (counted views) (steps_in o) in
    let none' : m ≡ 0 = none in
    let no : n ≡ 0 = omega (arith, few, none') in
    ap (λ ws. get_or ws j 0) h.words_are ∙ map_here (word_in o (counted views)) o.indexes j i there ∙ ap (λ w. unwrap_or w (bit_or (get_or o.words i 0) (gained i steps))) (written_none i steps no)

-- between any two steps
pub bits_told : (o : Opening) (words : List ℕ) (views : List View) (j i b : ℕ) → Holds o words views → slice_get o.indexes j ≡ Some i → all_writers i (steps_in o) ≡ 0
    → (IsSet (get_or words j 0) b ↔ (IsSet (get_or o.words i 0) b ⊎ IsAddedAt o (counted views) i b))
bits_told o words views j i b h there none = (told, untold)
  where
    steps : List Effect
    steps = done (counted views) (steps_in o)

    is : get_or words j 0 ≡ bit_or (get_or o.words i 0) (gained i steps)
    is = only_added o words views j i h there none

    told : IsSet (get_or words j 0) b → IsSet (get_or o.words i 0) b ⊎ IsAddedAt o (counted views) i b
    told h =
        ⊎_elim
        (λ (x : IsSet (get_or o.words i 0) b). inl x)
        (λ (x : IsSet (gained i steps) b).
        let a : IsAmong (counted views) i b 0 (steps_in o) = done_added (counted views) i b 0 (steps_in o) x in
        let by : IsAdded i b (counted views a.p) a.steps = subst (λ m. IsAdded i b (counted views m) a.steps) (zero-add a.p) a.adds in
        inr (record { p = a.p; steps = a.steps; piece = a.piece; k = by.k; done = by.below; bits = by.bits; step = by.step; has = by.has }))
        (set_either (get_or o.words i 0) (gained i steps) b (subst (λ w. IsSet w b) is h))

    untold : IsSet (get_or o.words i 0) b ⊎ IsAddedAt o (counted views) i b → IsSet (get_or words j 0) b
    untold h = subst (λ w. IsSet w b) (sym is)
        (⊎_elim
        (λ (x : IsSet (get_or o.words i 0) b). set_left (get_or o.words i 0) (gained i steps) b x)
        (λ (x : IsAddedAt o (counted views) i b).
        set_right (get_or o.words i 0) (gained i steps) b
        (added_done (counted views) i b 0 (steps_in o) x.p x.steps x.piece
        (subst (λ m. IsAdded i b (counted views m) x.steps) (sym (zero-add x.p)) (record { k = x.k; below = x.done; bits = x.bits; step = x.step; has = x.has }))))
        h)
