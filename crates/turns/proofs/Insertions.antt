-- One step inserted among others.
use Rattle.std.proofs.Common.{◌≡◌, ◌≢◌, ℕ, zero, suc, ◌+◌, ◌<◌, ◌≤◌, Bool, true, false, List, [], ◌∷◌, ◌++◌, length, take, Option, Some, None, unwrap_or, bit_or, refl, ap, ◌∙◌, sym, arith, if◌then◌else◌, append_assoc, zero-add}
use Rattle.std.specs.Prelude.{◌==◌, slice_get}
use Rattle.std.specs.Int.Bits.{or_zero_l, or_zero_r}
use Rattle.std.proofs.lemmas.Bool.{eq-eqb, ne_eqb}
use Rattle.std.proofs.lemmas.Nat.{or_comm}
use Rattle.pieces.specs.Effects.{Effect, keeps, adds, writes, bits_at, gained, or_written, written, word_after, done_from}
use Rattle.pieces.proofs.InOrder.{or_assoc}
use Rattle.turns.specs.Writers.{writes_here, adds_here, writers, adders, all_writers, all_adders}
use Rattle.turns.specs.Rules.{index_of, made}

-- nothing more than some is these
shed : (n m : ℕ) → 0 + n ≡ m → n ≡ m
shed n m h = sym (zero-add n) ∙ h

-- ---- counts of writers and adders

pub writers_append : (i : ℕ) (es fs : List Effect) → writers i (es ++ fs) ≡ writers i es + writers i fs
writers_append i [] fs = sym (zero-add (writers i fs))
writers_append i (e ∷ es) fs = let m = writers_append i es fs in let a : ℕ = writes_here i e in let b : ℕ = writers i (es ++ fs) in let c : ℕ = writers i es in let d : ℕ = writers i fs in let m' : b ≡ c + d = m in omega arith

pub adders_append : (i : ℕ) (es fs : List Effect) → adders i (es ++ fs) ≡ adders i es + adders i fs
adders_append i [] fs = sym (zero-add (adders i fs))
adders_append i (e ∷ es) fs = let m = adders_append i es fs in let a : ℕ = adds_here i e in let b : ℕ = adders i (es ++ fs) in let c : ℕ = adders i es in let d : ℕ = adders i fs in let m' : b ≡ c + d = m in omega arith

pub take_writers : (i n : ℕ) (es : List Effect) → writers i (take n es) ≤ writers i es
take_writers i zero es = omega arith
take_writers i (suc n) [] = omega arith
take_writers i (suc n) (e ∷ es) = let m = take_writers i n es in let a : ℕ = writes_here i e in let b : ℕ = writers i (take n es) in let c : ℕ = writers i es in let m' : b ≤ c = m in omega arith

take_adders : (i n : ℕ) (es : List Effect) → adders i (take n es) ≤ adders i es
take_adders i zero es = omega arith
take_adders i (suc n) [] = omega arith
take_adders i (suc n) (e ∷ es) = let m = take_adders i n es in let a : ℕ = adds_here i e in let b : ℕ = adders i (take n es) in let c : ℕ = adders i es in let m' : b ≤ c = m in omega arith

-- what was done writes and adds no more often than all steps
pub done_writers : (i q : ℕ) (counts : ℕ → ℕ) (ess : List (List Effect)) → writers i (done_from q counts ess) ≤ all_writers i ess
done_writers i q counts [] = omega arith
done_writers i q counts (es ∷ ess) =
    let a : ℕ = writers i (take (counts q) es ++ done_from (q + 1) counts ess) in
    let b : ℕ = writers i (take (counts q) es) in
    let c : ℕ = writers i (done_from (q + 1) counts ess) in
    let d : ℕ = writers i es in
    let f : ℕ = all_writers i ess in
    let split : a ≡ b + c = writers_append i (take (counts q) es) (done_from (q + 1) counts ess) in
    let here : b ≤ d = take_writers i (counts q) es in
    let rest : c ≤ f = done_writers i (q + 1) counts ess in
    omega arith

pub done_adders : (i q : ℕ) (counts : ℕ → ℕ) (ess : List (List Effect)) → adders i (done_from q counts ess) ≤ all_adders i ess
done_adders i q counts [] = omega arith
done_adders i q counts (es ∷ ess) =
    let a : ℕ = adders i (take (counts q) es ++ done_from (q + 1) counts ess) in
    let b : ℕ = adders i (take (counts q) es) in
    let c : ℕ = adders i (done_from (q + 1) counts ess) in
    let d : ℕ = adders i es in
    let f : ℕ = all_adders i ess in
    let split : a ≡ b + c = adders_append i (take (counts q) es) (done_from (q + 1) counts ess) in
    let here : b ≤ d = take_adders i (counts q) es in
    let rest : c ≤ f = done_adders i (q + 1) counts ess in
    omega arith

take_fewer : (i n m : ℕ) (es : List Effect) → n ≤ m → writers i (take n es) ≤ writers i (take m es)
take_fewer i zero m es less = let none : writers i (take zero es) ≡ 0 = refl in omega (arith, none)
take_fewer i (suc n) zero es less = absurd (omega (arith, less))
take_fewer i (suc n) (suc m) [] less = omega arith
take_fewer i (suc n) (suc m) (e ∷ es) less =
    let rest = take_fewer i n m es (omega (arith, less)) in let a : ℕ = writes_here i e in let b : ℕ = writers i (take n es) in let c : ℕ = writers i (take m es) in let less' : b ≤ c = rest in omega arith

-- fewer steps write no more often
pub done_fewer : (i q : ℕ) (counts more : ℕ → ℕ) (ess : List (List Effect)) → ((p : ℕ) → counts p ≤ more p) → writers i (done_from q counts ess) ≤ writers i (done_from q more ess)
done_fewer i q counts more [] few = omega arith
done_fewer i q counts more (es ∷ ess) few =
    let a : ℕ = writers i (take (counts q) es ++ done_from (q + 1) counts ess) in
    let b : ℕ = writers i (take (counts q) es) in
    let c : ℕ = writers i (done_from (q + 1) counts ess) in
    let d : ℕ = writers i (take (more q) es ++ done_from (q + 1) more ess) in
    let e : ℕ = writers i (take (more q) es) in
    let f : ℕ = writers i (done_from (q + 1) more ess) in
    let split : a ≡ b + c = writers_append i (take (counts q) es) (done_from (q + 1) counts ess) in
    let split_more : d ≡ e + f = writers_append i (take (more q) es) (done_from (q + 1) more ess) in
    let here : b ≤ e = take_fewer i (counts q) (more q) es (few q) in
    let rest : c ≤ f = done_fewer i (q + 1) counts more ess few in
    omega arith

-- ---- what steps write and add

written_skip : (i j word : ℕ) (es : List Effect) → (if j == i then 1 else 0) + writers i es ≡ 0 → (writers i es ≡ 0) × ((j == i) ≡ false)
written_skip i j word es h = by (j == i) h
  where
    by : (t : Bool) → (if t then 1 else 0) + writers i es ≡ 0 → (writers i es ≡ 0) × (t ≡ false)
    by true h = absurd (omega (arith, h))
    by false h = (shed (writers i es) 0 h, refl)

pub written_none : (i : ℕ) (es : List Effect) → writers i es ≡ 0 → written i es ≡ None
written_none i [] h = refl
written_none i (keeps j ∷ es) h = written_none i es (shed (writers i es) 0 h)
written_none i (adds j bits ∷ es) h = written_none i es (shed (writers i es) 0 h)
written_none i (writes j word ∷ es) h = let s = written_skip i j word es h in ap (λ t. if t then Some word else written i es) s.1 ∙ written_none i es s.0

pub gained_none : (i : ℕ) (es : List Effect) → adders i es ≡ 0 → gained i es ≡ 0
gained_none i [] h = refl
gained_none i (keeps j ∷ es) h = or_zero_l (gained i es) ∙ gained_none i es (shed (adders i es) 0 h)
gained_none i (writes j word ∷ es) h = or_zero_l (gained i es) ∙ gained_none i es (shed (adders i es) 0 h)
gained_none i (adds j bits ∷ es) h = let s = by (j == i) h in ap (λ t. bit_or (if t then bits else 0) (gained i es)) s.1 ∙ or_zero_l (gained i es) ∙ gained_none i es s.0
  where
    by : (t : Bool) → (if t then 1 else 0) + adders i es ≡ 0 → (adders i es ≡ 0) × (t ≡ false)
    by true h = absurd (omega (arith, h))
    by false h = (shed (adders i es) 0 h, refl)

-- a word at which no step writes and none adds is as before
pub untouched : (before i : ℕ) (es : List Effect) → writers i es ≡ 0 → adders i es ≡ 0 → word_after before i es ≡ before
untouched before i es w a = ap (λ o. unwrap_or o (bit_or before (gained i es))) (written_none i es w) ∙ ap (bit_or before) (gained_none i es a) ∙ or_zero_r before

-- ---- one step more

gained_insert : (i : ℕ) (e : Effect) (xs ys : List Effect) → gained i (xs ++ e ∷ ys) ≡ bit_or (gained i (xs ++ ys)) (bits_at i e)
gained_insert i e [] ys = or_comm (bits_at i e) (gained i ys)
gained_insert i e (x ∷ xs) ys = ap (bit_or (bits_at i x)) (gained_insert i e xs ys) ∙ sym (or_assoc (bits_at i x) (gained i (xs ++ ys)) (bits_at i e))

-- where the step does not write, what was written is as before
written_insert : (i : ℕ) (e : Effect) (xs ys : List Effect) → ((o : Option ℕ) → or_written i e o ≡ o) → written i (xs ++ e ∷ ys) ≡ written i (xs ++ ys)
written_insert i e [] ys h = h (written i ys)
written_insert i e (x ∷ xs) ys h = ap (or_written i x) (written_insert i e xs ys h)

-- where it writes, and none before it does, it is what it wrote
written_here : (i word : ℕ) (xs ys : List Effect) → writers i xs ≡ 0 → written i (xs ++ writes i word ∷ ys) ≡ Some word
written_here i word [] ys h = ap (λ t. if t then Some word else written i ys) (eq-eqb i i refl)
written_here i word (keeps j ∷ xs) ys h = written_here i word xs ys (shed (writers i xs) 0 h)
written_here i word (adds j bits ∷ xs) ys h = written_here i word xs ys (shed (writers i xs) 0 h)
written_here i word (writes j x ∷ xs) ys h = let s = written_skip i j x xs h in ap (λ t. if t then Some x else written i (xs ++ writes i word ∷ ys)) s.1 ∙ written_here i word xs ys s.0

elsewhere : (i j : ℕ) → i ≢ j → (j == i) ≡ false
elsewhere i j apart = ne_eqb j i (λ same. apart (sym same))

-- a step about another word leaves this one
pub other_word : (before i : ℕ) (e : Effect) (xs ys : List Effect) → i ≢ index_of e → word_after before i (xs ++ e ∷ ys) ≡ word_after before i (xs ++ ys)
other_word before i e xs ys apart =
    ap (λ o. unwrap_or o (bit_or before (gained i (xs ++ e ∷ ys)))) (written_insert i e xs ys (never e apart))
    ∙ ap (λ g. unwrap_or (written i (xs ++ ys)) (bit_or before g)) (gained_insert i e xs ys ∙ ap (bit_or (gained i (xs ++ ys))) (nothing e apart) ∙ or_zero_r (gained i (xs ++ ys)))
  where
    never : (f : Effect) → i ≢ index_of f → (o : Option ℕ) → or_written i f o ≡ o
    never (keeps j) h o = refl
    never (adds j bits) h o = refl
    never (writes j word) h o = ap (λ t. if t then Some word else o) (elsewhere i j h)

    nothing : (f : Effect) → i ≢ index_of f → bits_at i f ≡ 0
    nothing (keeps j) h = refl
    nothing (adds j bits) h = ap (λ t. if t then bits else 0) (elsewhere i j h)
    nothing (writes j word) h = refl

-- a step about this word makes of it what the step says, if the steps that write are alone
pub this_word : (before : ℕ) (e : Effect) (xs ys : List Effect) → let i = index_of e in
    writers i (xs ++ e ∷ ys) ≤ 1 → (0 < writers i (xs ++ e ∷ ys) → adders i (xs ++ e ∷ ys) ≡ 0) → word_after before i (xs ++ e ∷ ys) ≡ made e (word_after before i (xs ++ ys))
this_word before (keeps i) xs ys one alone =
    ap (λ o. unwrap_or o (bit_or before (gained i (xs ++ keeps i ∷ ys)))) (written_insert i (keeps i) xs ys (λ o. refl))
    ∙ ap (λ g. unwrap_or (written i (xs ++ ys)) (bit_or before g)) (gained_insert i (keeps i) xs ys ∙ or_zero_r (gained i (xs ++ ys)))
this_word before (adds i bits) xs ys one alone =
    let total : ℕ = writers i (xs ++ adds i bits ∷ ys) in
    let without : ℕ = writers i (xs ++ ys) in
    let same : total ≡ without = writers_append i xs (adds i bits ∷ ys) ∙ ap (λ n. writers i xs + n) (zero-add (writers i ys)) ∙ sym (writers_append i xs ys) in
    let here : (if i == i then 1 else 0) ≡ 1 = ap (λ t. if t then 1 else 0) (eq-eqb i i refl) in
    let gaining : ℕ = adders i (xs ++ adds i bits ∷ ys) in
    let a : ℕ = adders i xs in
    let b : ℕ = adders i ys in
    let some : gaining ≡ a + (1 + b) = adders_append i xs (adds i bits ∷ ys) ∙ ap (λ n. a + (n + b)) here in
    let none : total ≡ 0 = by total alone gaining some in
    ap (λ o. unwrap_or o (bit_or before (gained i (xs ++ adds i bits ∷ ys)))) (written_none i (xs ++ adds i bits ∷ ys) none)
    ∙ ap (bit_or before) (gained_insert i (adds i bits) xs ys ∙ ap (λ t. bit_or (gained i (xs ++ ys)) (if t then bits else 0)) (eq-eqb i i refl))
    ∙ sym (or_assoc before (gained i (xs ++ ys)) bits)
    ∙ ap (λ o. bit_or (unwrap_or o (bit_or before (gained i (xs ++ ys)))) bits) (sym (written_none i (xs ++ ys) (sym same ∙ none)))
  where
    by : (n : ℕ) → (0 < n → adders i (xs ++ adds i bits ∷ ys) ≡ 0) → (m : ℕ) → m ≡ adders i xs + (1 + adders i ys) → n ≡ 0
    by zero h m s = refl
    by (suc n) h m s =
        let here : (if i == i then 1 else 0) ≡ 1 = ap (λ t. if t then 1 else 0) (eq-eqb i i refl) in
        let gaining : ℕ = adders i (xs ++ adds i bits ∷ ys) in
        let a : ℕ = adders i xs in
        let b : ℕ = adders i ys in
        let more : gaining ≡ a + (1 + b) = adders_append i xs (adds i bits ∷ ys) ∙ ap (λ n. a + (n + b)) here in
        let none : gaining ≡ 0 = h (omega arith) in
        absurd (omega (arith, more, none))
this_word before (writes i word) xs ys one alone =
    let here : (if i == i then 1 else 0) ≡ 1 = ap (λ t. if t then 1 else 0) (eq-eqb i i refl) in
    let total : ℕ = writers i (xs ++ writes i word ∷ ys) in
    let a : ℕ = writers i xs in
    let b : ℕ = writers i ys in
    let some : total ≡ a + (1 + b) = writers_append i xs (writes i word ∷ ys) ∙ ap (λ n. a + (n + b)) here in
    let one' : total ≤ 1 = one in
    let none : a ≡ 0 = omega arith in
    ap (λ o. unwrap_or o (bit_or before (gained i (xs ++ writes i word ∷ ys)))) (written_here i word xs ys none)

-- ---- among what was done

take_more : (n : ℕ) (es : List Effect) (e : Effect) → slice_get es n ≡ Some e → take (suc n) es ≡ take n es ++ e ∷ []
take_more n [] e at = absurd (cc)
take_more zero (x ∷ es) e at = let is : x ≡ e = cc in ap (λ y. y ∷ []) is
take_more (suc n) (x ∷ es) e at = ap (λ ys. x ∷ ys) (take_more n es e at)

same_from : (q : ℕ) (counts more : ℕ → ℕ) (ess : List (List Effect)) → ((p : ℕ) → q ≤ p → more p ≡ counts p) → done_from q more ess ≡ done_from q counts ess
same_from q counts more [] same = refl
same_from q counts more (es ∷ ess) same =
    ap (λ n. take n es ++ done_from (q + 1) more ess) (same q (omega arith)) ∙ ap (λ fs. take (counts q) es ++ fs) (same_from (q + 1) counts more ess (λ p h. same p (omega (arith, h))))

-- what was done depends on the counts of the pieces alone
pub same_done : (q : ℕ) (counts more : ℕ → ℕ) (ess : List (List Effect)) → ((p : ℕ) → q ≤ p → p < q + length ess → more p ≡ counts p) → done_from q more ess ≡ done_from q counts ess
same_done q counts more [] same = refl
same_done q counts more (es ∷ ess) same =
    ap (λ n. take n es ++ done_from (q + 1) more ess) (same q (omega arith) (omega arith)) ∙ ap (λ fs. take (counts q) es ++ fs) (same_done (q + 1) counts more ess (λ p h less. same p (omega (arith, h)) (omega (arith, less))))

-- one step more of one piece stands somewhere among what was done
pub step_inserted : (q k : ℕ) (counts more : ℕ → ℕ) (ess : List (List Effect)) (es : List Effect) (e : Effect) → slice_get ess k ≡ Some es → slice_get es (counts (q + k)) ≡ Some e
    → more (q + k) ≡ suc (counts (q + k)) → ((p : ℕ) → p ≢ q + k → more p ≡ counts p)
    → (xs ys : List Effect) × (done_from q counts ess ≡ xs ++ ys) × (done_from q more ess ≡ xs ++ e ∷ ys)
step_inserted q k counts more [] es e at step one others = absurd (cc)
step_inserted q zero counts more (fs ∷ ess) es e at step one others =
    let is : fs ≡ es = cc in
    let zero_more : q + 0 ≡ q = omega arith in
    let here : slice_get es (counts q) ≡ Some e = ap (λ n. slice_get es (counts n)) (sym zero_more) ∙ step in
    let more_here : more q ≡ suc (counts q) = ap more (sym zero_more) ∙ one ∙ ap (λ n. suc (counts n)) zero_more in
    let rest = done_from (q + 1) counts ess in
    let same : done_from (q + 1) more ess ≡ rest = same_from (q + 1) counts more ess (λ p h. others p (λ is_q. omega (arith, h, is_q))) in (
      take (counts q) fs,
      rest,
      refl,
      ap (λ n. take n fs ++ done_from (q + 1) more ess) more_here ∙ ap (λ gs. gs ++ done_from (q + 1) more ess) (take_more (counts q) fs e (ap (λ gs. slice_get gs (counts q)) is ∙ here))
          ∙ ap (λ gs. (take (counts q) fs ++ e ∷ []) ++ gs) same ∙ append_assoc (take (counts q) fs) (e ∷ []) rest,
    )
step_inserted q (suc k) counts more (fs ∷ ess) es e at step one others =
    let next : (q + 1) + k ≡ q + suc k = omega arith in
    let t = step_inserted (q + 1) k counts more ess es e at (ap (λ n. slice_get es (counts n)) next ∙ step) (ap more next ∙ one ∙ ap (λ n. suc (counts n)) (sym next)) (λ p apart. others p (λ is. apart (is ∙ sym next))) in (
      take (counts q) fs ++ t.0,
      t.1,
      ap (λ gs. take (counts q) fs ++ gs) t.2 ∙ sym (append_assoc (take (counts q) fs) t.0 t.1),
      ap (λ n. take n fs ++ done_from (q + 1) more ess) (others q (λ is. omega (arith, is))) ∙ ap (λ gs. take (counts q) fs ++ gs) t.3 ∙ sym (append_assoc (take (counts q) fs) t.0 (e ∷ t.1)),
    )
