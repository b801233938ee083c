-- What steps find.
use Rattle.std.proofs.Common.{◌≡◌, ℕ, suc, ◌+◌, ◌≤◌, List, [], ◌∷◌, ◌++◌, get_or, Some, refl, ap, ◌∙◌, sym, subst, arith, zero-add, if◌then◌else◌, ◌<◌, Bool, true, false, ◌⊎◌, inl, inr}
use Rattle.std.specs.Prelude.{◌==◌, slice_get}
use Rattle.std.proofs.lemmas.Bool.{eq-eqb, ne_eqb, eqb-true}
use Rattle.pieces.specs.Effects.{Effect, writes, done}
use Rattle.turns.specs.Writers.{writers, adders, all_writers, all_adders}
use Rattle.turns.specs.Rules.{steps_in, word_in, IsOpening, IsMade, IsSeen}
use Rattle.atomic_table.specs.Seated.{TableId}
use Rattle.atomic_table.specs.Table.{Me}
use Rattle.turns.specs.Posts.{PostContent, IsPost, IsFound, IsToWrite}
use Rattle.turns.specs.Views.{count_in, names_in}
use Rattle.turns.specs.declared.view.View.{View}
use Rattle.turns.proofs.Insertions.{untouched, done_writers, done_adders, done_fewer, step_inserted, writers_append}
use Rattle.turns.proofs.Raising.{IsFirst, first_step}

same_or_other : (i j : ℕ) → (i ≡ j) ⊎ (i ≡ j → ⊥)
same_or_other i j = by (i == j) refl
  where
    by : (b : Bool) → (i == j) ≡ b → (i ≡ j) ⊎ (i ≡ j → ⊥)
    by true is = inl (eqb-true i j is)
    by false is = inr (λ same. cc (is, eq-eqb i j same))

-- what a post's seat finds
pub as_seen : (p : PostContent) (table : TableId) (me : Me (Unit {0}) View) → IsPost p table me → (i word : ℕ) → IsSeen i me.0 word → IsFound p i word
as_seen p table me post i word seen =
    let n : ℕ = p.number in
    let one : (if n == n then 1 else 0) ≡ 1 = ap (λ t. if t then 1 else 0) (eq-eqb n n refl) in
    let names : ℕ = names_in n me.0.counts in
    let names_are : names ≡ 1 + 0 = ap (names_in n) post.counts ∙ ap (λ k. k + 0) one in
    let here : count_in n me.0.counts ≡ p.steps + 0 = ap (count_in n) post.counts ∙ ap (λ t. (if t then p.steps else 0) + 0) (eq-eqb n n refl) in
    record {
      counts = seen.counts;
      own = seen.agree n (omega (arith, names_are)) ∙ here ∙ omega arith;
      found = seen.found ∙ ap (λ o. word_in o seen.counts i) post.seat.opening;
    }

pub as_found : (p : PostContent) (table : TableId) (me : Me (Unit {0}) View) → IsPost p table me → (i word : ℕ) (w : View) → IsMade i me.0 word w → IsFound p i word
as_found p table me post i word w made = as_seen p table me post i word made.seen

-- ---- a word that a step writes

-- one count is another
put : (ℕ → ℕ) → ℕ → ℕ → ℕ → ℕ
put counts n m q = if q == n then m else counts q

put_here : (counts : ℕ → ℕ) (n m q : ℕ) → q ≡ n → put counts n m q ≡ m
unfolding put
put_here counts n m q same = ap (λ t. if t then m else counts q) (eq-eqb q n same)

put_other : (counts : ℕ → ℕ) (n m q : ℕ) → (q ≡ n → ⊥) → put counts n m q ≡ counts q
unfolding put
put_other counts n m q differ = ap (λ t. if t then m else counts q) (ne_eqb q n differ)

-- no step before has changed the word that a step to come writes
pub alone : (p : PostContent) (i word : ℕ) → IsOpening p.shared.opening → IsToWrite p i → IsFound p i word → word ≡ get_or p.shared.opening.words i 0
alone p i word is to found =
    let o = p.shared.opening in
    let first : IsFirst o ((p.number, to.step) ∷ []) (writes i to.word) = first_step o ((p.number, to.step) ∷ []) (writes i to.word) to.to_write in
    by first.first first.others first.are first.steps first.of first.step
  where
    by : (c : ℕ × ℕ) (cs : List (ℕ × ℕ)) → ◌≡◌ {A = List (ℕ × ℕ)} ((p.number, to.step) ∷ []) (c ∷ cs) → (es : List Effect) → slice_get (steps_in p.shared.opening) c.0 ≡ Some es → slice_get es c.1 ≡ Some (writes i to.word) → word ≡ get_or p.shared.opening.words i 0
    by c cs are es of step =
        let o = p.shared.opening in
        let c_is : ◌≡◌ {A = ℕ × ℕ} (p.number, to.step) c = cc in
        let n : ℕ = p.number in
        let counts : ℕ → ℕ = found.counts in
        let until : ℕ → ℕ = put counts n to.step in
        let more : ℕ → ℕ = put counts n (suc to.step) in
        let from : 0 + n ≡ n = zero-add n in
        let last : until (0 + n) ≡ to.step = put_here counts n to.step (0 + n) from in
        let of' : slice_get (steps_in o) n ≡ Some es = ap (λ (d : ℕ × ℕ). slice_get (steps_in o) d.0) c_is ∙ of in
        let step' : slice_get es (until (0 + n)) ≡ Some (writes i to.word) = ap (slice_get es) last ∙ ap (λ (d : ℕ × ℕ). slice_get es d.1) c_is ∙ step in
        let here : more (0 + n) ≡ suc (until (0 + n)) = put_here counts n (suc to.step) (0 + n) from ∙ ap suc (sym last) in
        let t = step_inserted 0 n until more (steps_in o) es (writes i to.word) of' step' here
        (λ q apart. put_other counts n (suc to.step) q (λ same. apart (same ∙ sym from)) ∙ sym (put_other counts n to.step q (λ same. apart (same ∙ sym from)))) in
        let one_here : (if i == i then 1 else 0) ≡ 1 = ap (λ t. if t then 1 else 0) (eq-eqb i i refl) in
        let all : ℕ = all_writers i (steps_in o) in
        let adding : ℕ = all_adders i (steps_in o) in
        let a : ℕ = writers i t.0 in
        let b : ℕ = writers i t.1 in
        let m : ℕ = writers i (t.0 ++ writes i to.word ∷ t.1) in
        let m_is : m ≡ a + (1 + b) = writers_append i t.0 (writes i to.word ∷ t.1) ∙ ap (λ k. a + (k + b)) one_here in
        let fewer : m ≤ all = subst (λ fs. writers i fs ≤ all_writers i (steps_in o)) t.3 (done_writers i 0 more (steps_in o)) in
        let one : all ≤ 1 = is.apart.one i in
        let none_add : adding ≡ 0 = is.apart.alone i (omega (arith, m_is, fewer)) in
        let w : ℕ = writers i (done until (steps_in o)) in
        let w_is : w ≡ a + b = ap (writers i) t.2 ∙ writers_append i t.0 t.1 in
        let v : ℕ = writers i (done counts (steps_in o)) in
        let v_less : v ≤ w = done_fewer i 0 counts until (steps_in o) no_more in
        let v0 : v ≡ 0 = omega (arith, v_less, w_is, m_is, fewer, one) in
        let d : ℕ = adders i (done counts (steps_in o)) in
        let less : d ≤ adding = done_adders i 0 counts (steps_in o) in
        let d0 : d ≡ 0 = omega (arith, less, none_add) in
        found.found ∙ untouched (get_or o.words i 0) i (done counts (steps_in o)) v0 d0
      where
        no_more : (q : ℕ) → found.counts q ≤ put found.counts p.number to.step q
        no_more q = elim (same_or_other q p.number) as (λ _. found.counts q ≤ put found.counts p.number to.step q) [
          | inl same ↦ let own : found.counts q ≡ p.steps = ap found.counts same ∙ found.own in let is : put found.counts p.number to.step q ≡ to.step = put_here found.counts p.number to.step q same in omega (arith, own, is, to.later)
          | inr differ ↦ let is : put found.counts p.number to.step q ≡ found.counts q = put_other found.counts p.number to.step q differ in omega (arith, is)
        ]
