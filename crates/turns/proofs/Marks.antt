-- The pieces of turns, flagged.
use Rattle.std.proofs.Common.{◌≡◌, ◌≢◌, ⊎_elim, ℕ, ◌+◌, ◌<◌, ◌≤◌, Bool, true, false, ◌&&◌, not, List, [], ◌∷◌, ◌++◌, length, take, get_or, set, refl, ap, ◌∙◌, sym, subst, arith}
use Rattle.std.specs.Prelude.{◌==◌}
use Rattle.std.proofs.lemmas.Bool.{cases_lt, eqb-true, eq-eqb, true≢false}
use Rattle.std.proofs.lemmas.List.{take_more, map-append, get_or-set_same, get_or-set_other, length-set}
use Rattle.pieces.specs.Distinct.{is_none_of}
use Rattle.turns.specs.Closing.{numbers_of, watcher_numbers, AreMarked}
use Rattle.turns.specs.Posts.{PostContent}
use Rattle.turns.specs.Watching.{WatcherContent}

-- one flag is put
flag_put : (flags : List Bool) (n p : ℕ) (x d : Bool) → p < length flags → (t : Bool) → (n == p) ≡ t → (t ≡ true → get_or (set flags n x) p d ≡ x) × (t ≡ false → get_or (set flags n x) p d ≡ get_or flags p d)
flag_put flags n p x d less true is =
    (λ _. let same : n ≡ p = eqb-true n p is in subst (λ q. get_or (set flags n x) q d ≡ x) same (get_or-set_same flags n x d (subst (λ q. q < length flags) (sym same) less)), λ off. absurd (true≢false off))
flag_put flags n p x d less false is = (λ on. absurd (true≢false (sym on)), λ _. get_or-set_other flags n p x d (λ same. true≢false (sym (eq-eqb n p (sym same)) ∙ is)))

-- flags taken away so far
pub cleared : (flags : List Bool) (k : ℕ) → ((q : ℕ) → q < k → q < length flags → (d : Bool) → get_or flags q d ≡ false) → (q : ℕ) → q < k + 1 → q < length (set flags k false) → (d : Bool) → get_or (set flags k false) q d ≡ false
cleared flags k so_far q low within d = by (k == q) refl
  where
    inside : q < length flags
    inside = subst (λ n. q < n) (length-set flags k false) within

    by : (t : Bool) → (k == q) ≡ t → get_or (set flags k false) q d ≡ false
    by true is = (flag_put flags k q false d inside true is).0 refl
    by false is = (flag_put flags k q false d inside false is).1 refl ∙ so_far q (lower is) inside d
      where
        lower : (k == q) ≡ false → q < k
        lower off = let apart : k ≢ q = λ same. true≢false (sym (eq-eqb k q same) ∙ off) in ⊎_elim (λ (x : q < k). x) (λ (x : k ≤ q). absurd (apart (omega (arith, low, x)))) (cases_lt q k)

none_more : (xs : List ℕ) (n p : ℕ) → is_none_of (xs ++ n ∷ []) p ≡ (is_none_of xs p && not (n == p))
none_more [] n p = by (not (n == p))
  where
    by : (t : Bool) → (t && true) ≡ (true && t)
    by true = refl
    by false = refl
none_more (x ∷ xs) n p = ap (λ t. not (x == p) && t) (none_more xs n p) ∙ by (not (x == p))
  where
    by : (t : Bool) → (t && (is_none_of xs p && not (n == p))) ≡ ((t && is_none_of xs p) && not (n == p))
    by true = refl
    by false = refl

-- the numbers of the first turns, with one more; and of watchers
pub numbers_more : (ts : List PostContent) (k : ℕ) (t : PostContent) → k < length ts → t ≡ get_or ts k t → numbers_of (take (k + 1) ts) ≡ numbers_of (take k ts) ++ t.number ∷ []
numbers_more ts k t less at = ap numbers_of (take_more ts k t less ∙ ap (λ u. take k ts ++ u ∷ []) (sym at)) ∙ map-append (λ (u : PostContent). u.number) (take k ts) (t ∷ [])

pub watchers_more : (ws : List WatcherContent) (k : ℕ) (w : WatcherContent) → k < length ws → w ≡ get_or ws k w → watcher_numbers (take (k + 1) ws) ≡ watcher_numbers (take k ws) ++ w.number ∷ []
watchers_more ws k w less at = ap watcher_numbers (take_more ws k w less ∙ ap (λ u. take k ws ++ u ∷ []) (sym at)) ∙ map-append (λ (u : WatcherContent). u.number) (take k ws) (w ∷ [])

-- one number more
pub one_marked : (flags : List Bool) (ns : List ℕ) (n : ℕ) → AreMarked flags ns → AreMarked (set flags n true) (ns ++ n ∷ [])
one_marked flags ns n so_far p within d = by (n == p) refl (so_far p inside d) ∙ ap not (sym (none_more ns n p))
  where
    inside : p < length flags
    inside = subst (λ m. p < m) (length-set flags n true) within

    by : (b : Bool) → (n == p) ≡ b → get_or flags p d ≡ not (is_none_of ns p) → get_or (set flags n true) p d ≡ not (is_none_of ns p && not b)
    by true is before = (flag_put flags n p true d inside true is).0 refl ∙ off (is_none_of ns p)
      where
        off : (a : Bool) → true ≡ not (a && false)
        off true = refl
        off false = refl
    by false is before = (flag_put flags n p true d inside false is).1 refl ∙ before ∙ on (is_none_of ns p)
      where
        on : (a : Bool) → not a ≡ not (a && true)
        on true = refl
        on false = refl

-- one turn more
pub marked_more : (flags : List Bool) (ts : List PostContent) (k : ℕ) (t : PostContent) → k < length ts → t ≡ get_or ts k t → AreMarked flags (numbers_of (take k ts)) → AreMarked (set flags t.number true) (numbers_of (take (k + 1) ts))
marked_more flags ts k t less at so_far = subst (AreMarked (set flags t.number true)) (sym (numbers_more ts k t less at)) (one_marked flags (numbers_of (take k ts)) t.number so_far)

-- one watcher more
pub watcher_marked : (flags : List Bool) (ws : List WatcherContent) (k : ℕ) (w : WatcherContent) → k < length ws → w ≡ get_or ws k w → AreMarked flags (watcher_numbers (take k ws)) → AreMarked (set flags w.number true) (watcher_numbers (take (k + 1) ws))
watcher_marked flags ws k w less at so_far = subst (AreMarked (set flags w.number true)) (sym (watchers_more ws k w less at)) (one_marked flags (watcher_numbers (take k ws)) w.number so_far)

-- what a flag says
pub flagged : (flags : List Bool) (ns : List ℕ) → AreMarked flags ns → (p : ℕ) → p < length flags → (d : Bool) → get_or flags p d ≡ true → is_none_of ns p ≡ false
flagged flags ns marked p less d on = by (is_none_of ns p) (sym (marked p less d) ∙ on)
  where
    by : (t : Bool) → not t ≡ true → t ≡ false
    by true h = absurd (cc)
    by false h = refl

pub not_flagged : (flags : List Bool) (ns : List ℕ) → AreMarked flags ns → (p : ℕ) → p < length flags → (d : Bool) → get_or flags p d ≡ false → is_none_of ns p ≡ true
not_flagged flags ns marked p less d off = by (is_none_of ns p) (sym (marked p less d) ∙ off)
  where
    by : (t : Bool) → not t ≡ false → t ≡ true
    by true h = refl
    by false h = absurd (cc)

-- where all flags are set, all numbers below are there
pub none_left : (flags : List Bool) (ns : List ℕ) (n : ℕ) → AreMarked flags ns → ((q : ℕ) → q < n → (d : Bool) → get_or flags q d ≡ true) → length flags ≤ n → (p : ℕ) → p < length flags → is_none_of ns p ≡ false
none_left flags ns n marked before end p less = flagged flags ns marked p less true (before p (omega (arith, end, less)) true)
