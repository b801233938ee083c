-- Seats dealt, one for each piece.
use Rattle.std.proofs.Common.{◌≡◌, ℕ, zero, suc, ◌+◌, ◌-◌, ◌<◌, List, [], ◌∷◌, ◌++◌, length, map, refl, ap, ◌∙◌, arith}
use Rattle.std.specs.List.{All, range_with_len}
use Rattle.std.proofs.lemmas.List.{length-map, map-append}
use Rattle.std.proofs.lemmas.List.FromFn.{length-range_with_len}
use Rattle.turns.specs.Posts.{PostContent}
use Rattle.turns.specs.SharedWords.{SharedContent}
use Rattle.turns.specs.Turns.{new_turns}
use Rattle.turns.specs.Watching.{WatcherContent, new_watchers}
use Rattle.turns.specs.Views.{first_of, behind_first}

-- so many pieces from one on, with no step done
abbrev pub left : ℕ → ℕ → List (ℕ × ℕ)
left k m = map (λ p. (p, 0)) (range_with_len k m)

-- the pieces are those of the first seat
pub all_left : (n : ℕ) → left 0 (n - 0) ≡ left 0 n
all_left n = ap (left 0) (let z : n - 0 ≡ n = omega arith in z)

pub one_less : (k n : ℕ) → k < n → left k (n - k) ≡ (k, 0) ∷ left (k + 1) (n - (k + 1))
one_less k n less = ap (left k) (let z : n - k ≡ suc (n - (k + 1)) = omega (arith, less) in z)

pub first_left : (counts : List (ℕ × ℕ)) (k n : ℕ) → counts ≡ left k (n - k) → k < n → first_of counts ≡ (k, 0) ∷ []
first_left counts k n is less = ap first_of (is ∙ one_less k n less)

pub others_left : (counts : List (ℕ × ℕ)) (k n : ℕ) → counts ≡ left k (n - k) → k < n → behind_first counts ≡ left (k + 1) (n - (k + 1))
others_left counts k n is less = ap behind_first (is ∙ one_less k n less)

-- a turn more
range_more : (q k : ℕ) → range_with_len q (k + 1) ≡ range_with_len q k ++ (q + k) ∷ []
range_more q zero = ap (λ n. n ∷ []) (let z : q ≡ q + 0 = omega arith in z)
range_more q (suc k) =
    let next : suc k + 1 ≡ suc (k + 1) = omega arith in
    ap (range_with_len q) next ∙ ap (λ ns. q ∷ ns) (range_more (q + 1) k ∙ ap (λ n. range_with_len (q + 1) k ++ n ∷ []) (let z : (q + 1) + k ≡ q + suc k = omega arith in z))

pub turns_more : (s : SharedContent) (k : ℕ) → new_turns s (k + 1) ≡ new_turns s k ++ record { shared = s; number = k; steps = 0 } ∷ []
turns_more s k = ap (map turn) (range_more 0 k) ∙ map-append turn (range_with_len 0 k) ((0 + k) ∷ []) ∙ ap (λ n. map turn (range_with_len 0 k) ++ turn n ∷ []) (let z : 0 + k ≡ k = omega arith in z)
  where
    turn : ℕ → PostContent
    turn p = record { shared = s; number = p; steps = 0 }

pub turns_length : (s : SharedContent) (k : ℕ) → length (new_turns s k) ≡ k
turns_length s k = length-map (range_with_len 0 k) (λ p. record { shared = s; number = p; steps = 0 }) ∙ length-range_with_len 0 k

-- they are of this phase
pub turns_of : (s : SharedContent) (q n : ℕ) → All (λ (t : PostContent). t.shared ≡ s) (map (λ p. record { shared = s; number = p; steps = 0 }) (range_with_len q n))
turns_of s q zero k d less = absurd (omega (arith, less))
turns_of s q (suc n) zero d less = refl
turns_of s q (suc n) (suc k) d less = turns_of s (q + 1) n k d (omega (arith, less))

-- ---- watchers

-- one watcher more
pub watchers_more : (s : SharedContent) (k : ℕ) → new_watchers s (k + 1) ≡ new_watchers s k ++ record { shared = s; number = k; notes = [] } ∷ []
watchers_more s k = ap (map watcher) (range_more 0 k) ∙ map-append watcher (range_with_len 0 k) ((0 + k) ∷ []) ∙ ap (λ n. map watcher (range_with_len 0 k) ++ watcher n ∷ []) (let z : 0 + k ≡ k = omega arith in z)
  where
    watcher : ℕ → WatcherContent
    watcher n = record { shared = s; number = n; notes = [] }

-- they are of this phase
pub watchers_of : (s : SharedContent) (q n : ℕ) → All (λ (w : WatcherContent). w.shared ≡ s) (map (λ k. record { shared = s; number = k; notes = [] }) (range_with_len q n))
watchers_of s q zero k d less = absurd (omega (arith, less))
watchers_of s q (suc n) zero d less = refl
watchers_of s q (suc n) (suc k) d less = watchers_of s (q + 1) n k d (omega (arith, less))
