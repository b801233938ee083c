-- Each piece of a phase has one turn, and all are worked.
use Rattle.std.proofs.Common.{◌≡◌, ⊎_elim, ℕ, zero, suc, ◌+◌, ◌<◌, ◌≤◌, Bool, true, false, ◌&&◌, not, List, [], ◌∷◌, ◌++◌, length, map, get_or, Option, Some, refl, ap, ◌∙◌, sym, subst, arith, zero-add, if◌then◌else◌}
use Rattle.std.specs.Prelude.{◌==◌, slice_get, cond}
use Rattle.std.specs.List.{All, AllPass, flat_map, range_with_len}
use Rattle.std.specs.Option.{option_map, option_map_or, option_to_list}
use Rattle.std.proofs.lemmas.Bool.{cases_lt, eqb-true, eq-eqb, ne_eqb, lt-leb, true≢false}
use Rattle.std.proofs.lemmas.List.Elements.{All-cons}
use Rattle.std.proofs.lemmas.List.Folds.{list_any_none}
use Rattle.std.proofs.lemmas.List.FromFn.{get_or-range_with_len, length-range_with_len, length-map-range_with_len}
use Rattle.space.specs.Word.{is_pack}
use Rattle.pieces.specs.Applied.{applied, step_counts}
use Rattle.pieces.specs.Distinct.{is_none_of, are_distinct}
use Rattle.pieces.specs.Dones.{DoneContent, IsDone}
use Rattle.pieces.specs.Effects.{words_after}
use Rattle.pieces.specs.Gathering.{numbers_of as done_numbers, has_stranger, is_missing}
use Rattle.pieces.specs.Phases.{CanBeWorked}
use Rattle.pieces.specs.Steps.{effects}
use Rattle.pieces.specs.Values.{value}
use Rattle.pieces.specs.declared.piece.Piece.{Piece}
use Rattle.pieces.proofs.AllSteps.{length_words, worked_all, all_steps}
use Rattle.pieces.proofs.Packs.{packs_after_steps, pieces_suit}
use Rattle.turns.specs.Closing.{numbers_of, counts_of, steps_made, AreAll, OneIsWanting, OneWatcherIsWanting}
use Rattle.turns.specs.Watching.{WatcherContent}
use Rattle.turns.specs.Posts.{PostContent}
use Rattle.turns.specs.SharedWords.{SharedContent}
use Rattle.turns.specs.Turns.{steps_to_do, new_turns, done_of}
use Rattle.turns.specs.Views.{count_in}
use Rattle.turns.specs.Works.{step_count}
use Rattle.crew.specs.Crews.{DealtContent, AreDealt, IsEnded, worker_of, share_of, dealt}
use Rattle.crew.specs.Hands.{weigh, IsFresh}
use Rattle.crew.specs.Worked.{IsWorked}

-- ---- new turns

-- they have the numbers from 0 on
pub numbers_new : (s : SharedContent) (n : ℕ) → numbers_of (new_turns s n) ≡ range_with_len 0 n
numbers_new s n = by 0 n
  where
    by : (a n : ℕ) → numbers_of (map (λ p. let t : PostContent = record { shared = s; number = p; steps = 0 } in t) (range_with_len a n)) ≡ range_with_len a n
    by a zero = refl
    by a (suc n) = ap (λ ns. a ∷ ns) (by (a + 1) n)

-- and are so many
pub many_new : (s : SharedContent) (n : ℕ) → length (new_turns s n) ≡ n
many_new s n = length-map-range_with_len (λ p. record { shared = s; number = p; steps = 0 }) 0 n

-- ---- turns that are dealt

-- what is dealt to so many workers, from this one on, weighs
abbrev shares : (ℕ → ℕ) → ℕ → ℕ → List ℕ → ℕ → ℕ → ℕ
shares h room workers ns a zero = 0
shares h room workers ns a (suc n) = weigh h (share_of room workers a ns) + shares h room workers ns (a + 1) n

-- each deque has the share of its worker
dealt_shares : (h : ℕ → ℕ) (room workers : ℕ) (ns : List ℕ) (a : ℕ) (crew : List DealtContent) → ((k : ℕ) (d : DealtContent) → k < length crew → (get_or crew k d).put ≡ share_of room workers (a + k) ns)
    → dealt h crew ≡ shares h room workers ns a (length crew)
dealt_shares h room workers ns a [] each = refl
dealt_shares h room workers ns a (d ∷ crew) each =
    let here : a + 0 ≡ a = omega arith in
    let x : ℕ = weigh h d.put in let y : ℕ = weigh h (share_of room workers a ns) in let first : x ≡ y = ap (weigh h) (each 0 d (omega arith) ∙ ap (λ k. share_of room workers k ns) here) in
    let b : ℕ = dealt h crew in let c : ℕ = shares h room workers ns (a + 1) (length crew) in
    let others : b ≡ c = dealt_shares h room workers ns (a + 1) crew (λ k e less. let next : a + suc k ≡ (a + 1) + k = omega arith in each (suc k) e (omega (arith, less)) ∙ ap (λ j. share_of room workers j ns) next) in
    let goal : x + b ≡ y + c = omega arith in goal

-- shares of nothing
no_shares : (h : ℕ → ℕ) (room workers a n : ℕ) → shares h room workers [] a n ≡ 0
no_shares h room workers a zero = refl
no_shares h room workers a (suc n) = zero-add (shares h room workers [] (a + 1) n) ∙ no_shares h room workers (a + 1) n

-- a number that another worker gets
share_same : (h : ℕ → ℕ) (room workers m a : ℕ) (ns : List ℕ) → (worker_of room workers m == a) ≡ false → weigh h (share_of room workers a (m ∷ ns)) ≡ weigh h (share_of room workers a ns)
share_same h room workers m a ns apart = ap (λ t. weigh h (cond t (m ∷ share_of room workers a ns) (share_of room workers a ns))) apart

-- and one that this worker gets
share_more : (h : ℕ → ℕ) (room workers m a : ℕ) (ns : List ℕ) → (worker_of room workers m == a) ≡ true → weigh h (share_of room workers a (m ∷ ns)) ≡ h m + weigh h (share_of room workers a ns)
share_more h room workers m a ns same = ap (λ t. weigh h (cond t (m ∷ share_of room workers a ns) (share_of room workers a ns))) same

-- a number whose worker comes before these
shares_same : (h : ℕ → ℕ) (room workers m : ℕ) (ns : List ℕ) (a n : ℕ) → worker_of room workers m < a → shares h room workers (m ∷ ns) a n ≡ shares h room workers ns a n
shares_same h room workers m ns a zero low = refl
shares_same h room workers m ns a (suc n) low =
    let x : ℕ = weigh h (share_of room workers a (m ∷ ns)) in let y : ℕ = weigh h (share_of room workers a ns) in
    let first : x ≡ y = share_same h room workers m a ns (ne_eqb (worker_of room workers m) a (λ same. omega (arith, low, same))) in
    let b : ℕ = shares h room workers (m ∷ ns) (a + 1) n in let c : ℕ = shares h room workers ns (a + 1) n in
    let others : b ≡ c = shares_same h room workers m ns (a + 1) n (omega (arith, low)) in
    let goal : x + b ≡ y + c = omega arith in goal

-- and one whose worker is one of these
shares_more : (h : ℕ → ℕ) (room workers m : ℕ) (ns : List ℕ) (a n : ℕ) → a ≤ worker_of room workers m → worker_of room workers m < a + n → shares h room workers (m ∷ ns) a n ≡ h m + shares h room workers ns a n
shares_more h room workers m ns a zero from to = absurd (omega (arith, from, to))
shares_more h room workers m ns a (suc n) from to =
    let x : ℕ = weigh h (share_of room workers a (m ∷ ns)) in let y : ℕ = weigh h (share_of room workers a ns) in
    let b : ℕ = shares h room workers (m ∷ ns) (a + 1) n in let c : ℕ = shares h room workers ns (a + 1) n in let w : ℕ = h m in
    ⊎_elim
    (λ (less : a < worker_of room workers m).
    let first : x ≡ y = share_same h room workers m a ns (ne_eqb (worker_of room workers m) a (λ same. omega (arith, less, same))) in
    let others : b ≡ w + c = shares_more h room workers m ns (a + 1) n (omega (arith, less)) (omega (arith, to)) in
    let goal : x + b ≡ w + (y + c) = omega arith in goal)
    (λ (most : worker_of room workers m ≤ a).
    let first : x ≡ w + y = share_more h room workers m a ns (eq-eqb (worker_of room workers m) a (omega (arith, from, most))) in
    let others : b ≡ c = shares_same h room workers m ns (a + 1) n (omega (arith, most)) in
    let goal : x + b ≡ w + (y + c) = omega arith in goal)
    (cases_lt a (worker_of room workers m))

-- all shares together weigh what all numbers do
all_shares : (h : ℕ → ℕ) (room workers : ℕ) (ns : List ℕ) → 1 ≤ workers → shares h room workers ns 0 workers ≡ weigh h ns
all_shares h room workers [] some = no_shares h room workers 0 workers
all_shares h room workers (m ∷ ns) some =
    let below : worker_of room workers m < workers = omega (arith, some) in
    shares_more h room workers m ns 0 workers (omega arith) (omega (arith, below)) ∙ ap (λ x. h m + x) (all_shares h room workers ns some)

-- what was dealt weighs what there was to deal
pub dealt_all : (h : ℕ → ℕ) (room workers : ℕ) (ns : List ℕ) (crew : List DealtContent) → 1 ≤ workers → AreDealt room workers ns crew → dealt h crew ≡ weigh h ns
dealt_all h room workers ns crew some are =
    dealt_shares h room workers ns 0 crew (λ k d less. let same : k ≡ 0 + k = omega arith in are.each k d less ∙ ap (λ j. share_of room workers j ns) same)
    ∙ ap (shares h room workers ns 0) are.many ∙ all_shares h room workers ns some

-- ---- one number

-- 1 of this number, 0 of all others
abbrev pub one_of : ℕ → ℕ → ℕ
one_of p n = if n == p then 1 else 0

-- numbers among which it is not weigh nothing
none_weighs : (p : ℕ) (ns : List ℕ) → is_none_of ns p ≡ true → weigh (one_of p) ns ≡ 0
none_weighs p [] none = refl
none_weighs p (n ∷ ns) none = by (n == p) none (none_weighs p ns)
  where
    by : (t : Bool) → (not t && is_none_of ns p) ≡ true → (is_none_of ns p ≡ true → weigh (one_of p) ns ≡ 0) → (if t then 1 else 0) + weigh (one_of p) ns ≡ 0
    by true none later = absurd (cc)
    by false none later = zero-add (weigh (one_of p) ns) ∙ later none

-- and where they weigh nothing it is not among them
weighs_none : (p : ℕ) (ns : List ℕ) → weigh (one_of p) ns ≡ 0 → is_none_of ns p ≡ true
weighs_none p [] nothing = refl
weighs_none p (n ∷ ns) nothing = by (n == p) nothing (weighs_none p ns)
  where
    by : (t : Bool) → (if t then 1 else 0) + weigh (one_of p) ns ≡ 0 → (weigh (one_of p) ns ≡ 0 → is_none_of ns p ≡ true) → (not t && is_none_of ns p) ≡ true
    by true nothing later = absurd (omega (arith, nothing))
    by false nothing later = later (sym (zero-add (weigh (one_of p) ns)) ∙ nothing)

-- where they weigh 1 it is
pub weighs_one : (p : ℕ) (ns : List ℕ) → weigh (one_of p) ns ≡ 1 → is_none_of ns p ≡ false
weighs_one p ns one = by (is_none_of ns p) refl
  where
    by : (t : Bool) → is_none_of ns p ≡ t → t ≡ false
    by true is = let m : ℕ = weigh (one_of p) ns in let none : m ≡ 0 = none_weighs p ns is in let one' : m ≡ 1 = one in absurd (omega arith)
    by false is = refl

-- a number before those of a range
before_range : (p a n : ℕ) → p < a → weigh (one_of p) (range_with_len a n) ≡ 0
before_range p a zero low = refl
before_range p a (suc n) low =
    ap (λ t. (if t then 1 else 0) + weigh (one_of p) (range_with_len (a + 1) n)) (ne_eqb a p (λ same. omega (arith, low, same))) ∙ zero-add (weigh (one_of p) (range_with_len (a + 1) n)) ∙ before_range p (a + 1) n (omega (arith, low))

-- one behind them
pub behind_range : (p a n : ℕ) → a + n ≤ p → weigh (one_of p) (range_with_len a n) ≡ 0
behind_range p a zero high = refl
behind_range p a (suc n) high =
    ap (λ t. (if t then 1 else 0) + weigh (one_of p) (range_with_len (a + 1) n)) (ne_eqb a p (λ same. omega (arith, high, same))) ∙ zero-add (weigh (one_of p) (range_with_len (a + 1) n)) ∙ behind_range p (a + 1) n (omega (arith, high))

-- and one of them
pub in_range : (p a n : ℕ) → a ≤ p → p < a + n → weigh (one_of p) (range_with_len a n) ≡ 1
in_range p a zero from to = absurd (omega (arith, from, to))
in_range p a (suc n) from to =
    ⊎_elim
    (λ (less : a < p).
    ap (λ t. (if t then 1 else 0) + weigh (one_of p) (range_with_len (a + 1) n)) (ne_eqb a p (λ same. omega (arith, less, same))) ∙ zero-add (weigh (one_of p) (range_with_len (a + 1) n)) ∙ in_range p (a + 1) n (omega (arith, less)) (omega (arith, to)))
    (λ (most : p ≤ a). ap (λ t. (if t then 1 else 0) + weigh (one_of p) (range_with_len (a + 1) n)) (eq-eqb a p (omega (arith, from, most))) ∙ ap (λ m. 1 + m) (before_range p (a + 1) n (omega (arith, most))))
    (cases_lt a p)

-- numbers of which none comes twice
pub distinct_once : (ns : List ℕ) → ((p : ℕ) → weigh (one_of p) ns ≤ 1) → are_distinct ns ≡ true
distinct_once [] few = refl
distinct_once (n ∷ ns) few =
    let m : ℕ = weigh (one_of n) ns in
    let here : 1 + m ≤ 1 = subst (λ t. (if t then 1 else 0) + weigh (one_of n) ns ≤ 1) (eq-eqb n n refl) (few n) in
    let none : m ≡ 0 = omega arith in
    rw (weighs_none n ns none) (distinct_once ns (λ p. let a : ℕ = one_of p n in let b : ℕ = weigh (one_of p) ns in let both : a + b ≤ 1 = few p in let goal : b ≤ 1 = omega arith in goal))

-- numbers among which none is too great
pub all_below : (n : ℕ) (ns : List ℕ) → ((p : ℕ) → n ≤ p → weigh (one_of p) ns ≡ 0) → All (λ m. m < n) ns
all_below n [] none k d less = absurd (omega (arith, less))
all_below n (m ∷ ns) none zero d less =
    ⊎_elim (λ (low : m < n). low)
    (λ (high : n ≤ m). let b : ℕ = weigh (one_of m) ns in let both : 1 + b ≡ 0 = subst (λ t. (if t then 1 else 0) + weigh (one_of m) ns ≡ 0) (eq-eqb m m refl) (none m high) in absurd (omega arith)) (cases_lt m n)
all_below n (m ∷ ns) none (suc k) d less =
    all_below n ns (λ p high. let a : ℕ = one_of p m in let b : ℕ = weigh (one_of p) ns in let both : a + b ≡ 0 = none p high in let goal : b ≡ 0 = omega arith in goal) k d (omega (arith, less))

-- ---- numbers that weigh what those of all pieces do

-- each comes once
pub once : (s : SharedContent) (ts : List PostContent) → ((h : ℕ → ℕ) → weigh h (numbers_of ts) ≡ weigh h (range_with_len 0 (length s.opening.pieces))) → (p : ℕ) → p < length s.opening.pieces
    → weigh (one_of p) (numbers_of ts) ≡ 1
once s ts same p less = same (one_of p) ∙ in_range p 0 (length s.opening.pieces) (omega arith) (omega (arith, less))

-- and no other number does
pub no_other : (s : SharedContent) (ts : List PostContent) → ((h : ℕ → ℕ) → weigh h (numbers_of ts) ≡ weigh h (range_with_len 0 (length s.opening.pieces))) → (p : ℕ) → length s.opening.pieces ≤ p
    → weigh (one_of p) (numbers_of ts) ≡ 0
no_other s ts same p past = same (one_of p) ∙ behind_range p 0 (length s.opening.pieces) (omega (arith, past))

-- each piece has a turn
pub all_there : (s : SharedContent) (ts : List PostContent) → ((h : ℕ → ℕ) → weigh h (numbers_of ts) ≡ weigh h (range_with_len 0 (length s.opening.pieces))) → AreAll s ts
all_there s ts same p less = weighs_one p (numbers_of ts) (once s ts same p less)

-- none has two
pub none_twice : (s : SharedContent) (ts : List PostContent) → ((h : ℕ → ℕ) → weigh h (numbers_of ts) ≡ weigh h (range_with_len 0 (length s.opening.pieces))) → are_distinct (numbers_of ts) ≡ true
none_twice s ts same =
    distinct_once (numbers_of ts) (λ p.
    let m : ℕ = weigh (one_of p) (numbers_of ts) in
    ⊎_elim (λ (less : p < length s.opening.pieces). let one : m ≡ 1 = once s ts same p less in let goal : m ≤ 1 = omega arith in goal)
    (λ (past : length s.opening.pieces ≤ p). let none : m ≡ 0 = no_other s ts same p past in let goal : m ≤ 1 = omega arith in goal) (cases_lt p (length s.opening.pieces)))

-- and each turn has a piece
pub none_strange : (s : SharedContent) (ts : List PostContent) → ((h : ℕ → ℕ) → weigh h (numbers_of ts) ≡ weigh h (range_with_len 0 (length s.opening.pieces))) → All (λ n. n < length s.opening.pieces) (numbers_of ts)
none_strange s ts same = all_below (length s.opening.pieces) (numbers_of ts) (no_other s ts same)

-- so none is without a turn
pub none_wanting : (s : SharedContent) (ts : List PostContent) → AreAll s ts → OneIsWanting s ts → ⊥
none_wanting s ts all wanting = true≢false (sym wanting.2 ∙ all wanting.0 wanting.1)

-- nor is a watcher wanting, where there is none
pub no_watchers : (s : SharedContent) (ws : List WatcherContent) → s.opening.watchers ≡ 0 → OneWatcherIsWanting s ws → ⊥
no_watchers s ws none wanting = let m : ℕ = s.opening.watchers in let k : ℕ = wanting.0 in let less : k < m = wanting.1 in let m0 : m ≡ 0 = none in omega (arith, less, m0)

-- nor where the only one is there
pub only_watcher : (s : SharedContent) (w : WatcherContent) → s.opening.watchers ≡ 1 → w.number ≡ 0 → OneWatcherIsWanting s (w ∷ []) → ⊥
only_watcher s w one first wanting =
    let m : ℕ = s.opening.watchers in let k : ℕ = wanting.0 in let less : k < m = wanting.1 in let m1 : m ≡ 1 = one in
    let k0 : k ≡ 0 = omega (arith, less, m1) in
    true≢false (sym wanting.2 ∙ ap (λ t. not t && true) (eq-eqb w.number k (first ∙ sym k0)))

-- the only watcher was lent and came back
pub record IsOnly (w x : WatcherContent) (left : List WatcherContent) : Type 0 where
  pub same : x ≡ w
  pub none : left ≡ []

pub only_one : (all left : List WatcherContent) (w x : WatcherContent) → all ≡ w ∷ [] → all ≡ left ++ x ∷ [] → IsOnly w x left
only_one all left w x one split = by left (sym one ∙ split)
  where
    by : (ys : List WatcherContent) → w ∷ [] ≡ ys ++ x ∷ [] → IsOnly w x ys
    by [] is = record { same = let e : w ≡ x = cc in sym e; none = refl }
    by (y ∷ []) is = absurd (cc)
    by (y ∷ z ∷ ys) is = absurd (cc)

-- ---- steps

-- how many steps a piece has
steps_at : (w : List ℕ) (ps : List Piece) (p : ℕ) → option_map_or (step_count w) (slice_get ps p) 0 ≡ get_or (step_counts w ps) p 0
steps_at w [] p = refl
steps_at w (q ∷ ps) zero = refl
steps_at w (q ∷ ps) (suc p) = steps_at w ps p

-- a turn that has ended made all steps of its piece
ended_steps : (s : SharedContent) (t : PostContent) → IsEnded s t → t.steps ≡ get_or (step_counts s.opening.words s.opening.pieces) t.number 0
ended_steps s t ended =
    ended.1 ∙ ap (λ (x : SharedContent). option_map_or (step_count x.opening.words) (slice_get x.opening.pieces t.number) 0) ended.0 ∙ steps_at s.opening.words s.opening.pieces t.number

-- so all steps of a piece that has such a turn were made
all_made : (s : SharedContent) (ts : List PostContent) → All (IsEnded s) ts → (p : ℕ) → is_none_of (numbers_of ts) p ≡ false → get_or (step_counts s.opening.words s.opening.pieces) p 0 ≤ steps_made ts p
all_made s [] ended p there = absurd (true≢false there)
all_made s (t ∷ ts) ended p there = by (t.number == p) refl there (all_made s ts (λ k d less. ended (suc k) d (omega (arith, less))) p)
  where
    by : (b : Bool) → (t.number == p) ≡ b → (not b && is_none_of (numbers_of ts) p) ≡ false
        → (is_none_of (numbers_of ts) p ≡ false → get_or (step_counts s.opening.words s.opening.pieces) p 0 ≤ count_in p (counts_of ts))
        → get_or (step_counts s.opening.words s.opening.pieces) p 0 ≤ (if b then t.steps else 0) + count_in p (counts_of ts)
    by true is there later =
        let a : ℕ = get_or (step_counts s.opening.words s.opening.pieces) p 0 in let b : ℕ = t.steps in let c : ℕ = count_in p (counts_of ts) in
        let made : b ≡ a = ended_steps s t (ended 0 t (omega arith)) ∙ ap (λ n. get_or (step_counts s.opening.words s.opening.pieces) n 0) (eqb-true t.number p is) in
        let goal : a ≤ b + c = omega arith in goal
    by false is there later =
        let a : ℕ = get_or (step_counts s.opening.words s.opening.pieces) p 0 in let c : ℕ = count_in p (counts_of ts) in let made : a ≤ c = later there in let goal : a ≤ 0 + c = omega arith in goal

-- ---- results

-- a result of a piece of the phase
abbrev IsResult : SharedContent → DoneContent → Type 0
IsResult s d = (d.words ≡ s.opening.words) × (slice_get s.opening.pieces d.number ≡ Some d.of) × IsDone d

-- the piece of a number
piece_there : (ps : List Piece) (n : ℕ) → n < length ps → (p : Piece) × (slice_get ps n ≡ Some p)
piece_there [] n less = absurd (omega (arith, less))
piece_there (p ∷ ps) zero less = (p, refl)
piece_there (p ∷ ps) (suc n) less = piece_there ps n (omega (arith, less))

-- what a turn hands in that has ended
one_result : (s : SharedContent) (t : PostContent) → IsEnded s t → t.number < length s.opening.pieces
    → (p : Piece) × (slice_get s.opening.pieces t.number ≡ Some p) × (done_of t ≡ record { number = t.number; found = value s.opening.words p; of = p; words = s.opening.words } ∷ [])
one_result s t ended less =
    let there = piece_there s.opening.pieces t.number less in (
      there.0,
      there.1,
      ap (λ b. if b then results t.shared (slice_get t.shared.opening.pieces t.number) else []) (eq-eqb t.steps (steps_to_do t) ended.1)
          ∙ ap (λ (x : SharedContent). results x (slice_get x.opening.pieces t.number)) ended.0 ∙ ap (results s) there.1,
    )
  where
    results : SharedContent → Option Piece → List DoneContent
    results x o = option_to_list (option_map (λ p. record { number = t.number; found = value x.opening.words p; of = p; words = x.opening.words }) o)

-- results have the numbers of their turns
numbers_done : (s : SharedContent) (ts : List PostContent) → All (IsEnded s) ts → All (λ n. n < length s.opening.pieces) (numbers_of ts) → done_numbers (flat_map done_of ts) ≡ numbers_of ts
numbers_done s [] ended low = refl
numbers_done s (t ∷ ts) ended low =
    let one = one_result s t (ended 0 t (omega arith)) (low 0 0 (omega arith)) in
    ap (λ ds. done_numbers (ds ++ flat_map done_of ts)) one.2 ∙ ap (λ ns. t.number ∷ ns) (numbers_done s ts (λ k d less. ended (suc k) d (omega (arith, less))) (λ k d less. low (suc k) d (omega (arith, less))))

-- each is the result of a piece
all_results : (s : SharedContent) (ts : List PostContent) → All (IsEnded s) ts → All (λ n. n < length s.opening.pieces) (numbers_of ts) → All (IsResult s) (flat_map done_of ts)
all_results s [] ended low = λ k d less. absurd (omega (arith, less))
all_results s (t ∷ ts) ended low =
    let one = one_result s t (ended 0 t (omega arith)) (low 0 0 (omega arith)) in
    let d : DoneContent = record { number = t.number; found = value s.opening.words one.0; of = one.0; words = s.opening.words } in
    subst (λ ds. All (IsResult s) (ds ++ flat_map done_of ts)) (sym one.2)
    (All-cons (IsResult s) d (flat_map done_of ts) (refl, one.1, refl) (all_results s ts (λ k e less. ended (suc k) e (omega (arith, less))) (λ k e less. low (suc k) e (omega (arith, less)))))

-- results with numbers below n
pub no_stranger : (n : ℕ) (ds : List DoneContent) → All (λ m. m < n) (done_numbers ds) → has_stranger n ds ≡ false
no_stranger n [] low = refl
no_stranger n (d ∷ ds) low = rw (lt-leb n d.number (low 0 0 (omega arith))) (no_stranger n ds (λ k e less. low (suc k) e (omega (arith, less))))

-- and with all of these
pub none_missing : (n : ℕ) (ds : List DoneContent) → ((p : ℕ) → p < n → is_none_of (done_numbers ds) p ≡ false) → is_missing n ds ≡ false
none_missing n ds there =
    list_any_none (is_none_of (done_numbers ds)) (range_with_len 0 n) (λ k d less.
    let less' : k < n = subst (λ m. k < m) (length-range_with_len 0 n) less in
    ap (is_none_of (done_numbers ds)) (get_or-range_with_len 0 n k d less' ∙ zero-add k) ∙ there k less')

-- all pieces are worked, and their results are there
pub all_worked : (s : SharedContent) (ts : List PostContent) → CanBeWorked s.opening.words s.opening.pieces → All (IsEnded s) ts
    → ((h : ℕ → ℕ) → weigh h (numbers_of ts) ≡ weigh h (range_with_len 0 (length s.opening.pieces)))
    → IsWorked s.opening.words s.opening.pieces (applied s.opening.words s.opening.pieces (steps_made ts)) (flat_map done_of ts)
all_worked s ts can ended same =
    let w : List ℕ = s.opening.words in let ps : List Piece = s.opening.pieces in
    let low = none_strange s ts same in
    let numbers : done_numbers (flat_map done_of ts) ≡ numbers_of ts = numbers_done s ts ended low in
    let results : All (IsResult s) (flat_map done_of ts) = all_results s ts ended low in
    let words : applied w ps (steps_made ts) ≡ words_after w (flat_map (effects w) ps) =
    ap (words_after w) (all_steps w 0 ps (steps_made ts) (λ p less. rw zero-add (all_made s ts ended p (all_there s ts same p less)))) in
    record {
      words = words ∙ sym (worked_all w ps);
      many = ap length words ∙ length_words 0 w (flat_map (effects w) ps);
      packs = subst (AllPass is_pack) (sym words) (packs_after_steps w (flat_map (effects w) ps) can.packs (pieces_suit w ps can.entries));
      dones = record {
        once =
            rw (
              no_stranger (length ps) (flat_map done_of ts) (subst (All (λ n. n < length ps)) (sym numbers) low),
              ap are_distinct numbers ∙ none_twice s ts same,
              none_missing (length ps) (flat_map done_of ts) (λ p less. ap (λ ns. is_none_of ns p) numbers ∙ all_there s ts same p less),
            ) refl;
        words = λ k d less. (results k d less).0;
        of = λ k d less. (results k d less).1;
        values = λ k d less. (results k d less).2;
      };
    }

-- new turns have no step done
pub new_fresh : (s : SharedContent) (n : ℕ) → All (IsFresh s) (new_turns s n)
new_fresh s n = by 0 n
  where
    by : (a n : ℕ) → All (IsFresh s) (map (λ p. let t : PostContent = record { shared = s; number = p; steps = 0 } in t) (range_with_len a n))
    by a zero k d less = absurd (omega (arith, less))
    by a (suc n) zero d less = (refl, refl)
    by a (suc n) (suc k) d less = by (a + 1) n k d (omega (arith, less))
