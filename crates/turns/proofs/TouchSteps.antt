-- The steps of a touch, one by one.
use Rattle.std.proofs.Common.{◌≡◌, ◌≢◌, ℕ, zero, suc, ◌+◌, ◌*◌, ◌<◌, ◌≤◌, Bool, true, false, not, ◌||◌, List, [], ◌∷◌, ◌++◌, length, map, take, get_or, set, Some, refl, ap, ◌∙◌, sym, subst, arith, zero-add, length-append, if◌then◌else◌}
use Rattle.std.specs.Prelude.{◌==◌, slice_get}
use Rattle.std.specs.List.{flat_map, list_all, list_any}
use Rattle.std.specs.Option.{is_some, option_map_or}
use Rattle.std.proofs.lemmas.Bool.{eqb-true, eq-eqb, ne_eqb, true≢false}
use Rattle.std.proofs.lemmas.Grind.{flat_map-append}
use Rattle.std.proofs.lemmas.List.{map-append, take_more, take_all, length-take-le, get_or_default}
use Rattle.std.proofs.lemmas.List.{take_more_set}
use Rattle.fpage.specs.Rights.{has, marks}
use Rattle.space.specs.Word.{is_pack, entry_of}
use Rattle.pieces.specs.Effects.{Effect, keeps, adds, writes, done, done_from, word_after, words_after, write_at, writes_at}
use Rattle.pieces.specs.Distinct.{is_none_of}
use Rattle.pieces.specs.Phases.{held, is_touch, are_alike}
use Rattle.pieces.specs.Steps.{Step, see, mark, effect, effects, status_bits, may_access, access_steps, entry_in}
use Rattle.pieces.specs.declared.touch.WordAccess.{WordAccess}
use Rattle.pieces.specs.declared.piece.Piece.{Piece}
use Rattle.pieces.specs.declared.piece.Piece.TheVariants as piece
use Rattle.pieces.proofs.AllSteps.{length_words, word_at}
use Rattle.pieces.proofs.NamedWords.{accesses_within}
use Rattle.pieces.proofs.OneByOne.{may_by_page}
use Rattle.pieces.proofs.Packs.{AllSuit, page_of, piece_suits, suit_append, packs_after_steps, same_page_after}
use Rattle.pieces.proofs.Writers.{touches_write}
use Rattle.pieces.specs.DistinctParts.{all_split}
use Rattle.turns.specs.Posts.{PostContent, IsFound}
use Rattle.turns.specs.Rules.{steps_in, next_step}
use Rattle.turns.specs.SharedWords.{IsPhase}
use Rattle.turns.specs.Works.{steps_of, IsTouchWork}
use Rattle.turns.specs.declared.touch_work.TouchWork.{TouchWork}
use Rattle.turns.specs.declared.view.Opening.{Opening}
use Rattle.turns.proofs.StripSteps.{next_is, names}

-- ---- how many steps accesses have

own_steps : List ℕ → WordAccess → ℕ
own_steps w t = length (access_steps w t)

own_few : (w : List ℕ) (t : WordAccess) → (1 ≤ length (access_steps w t)) × (length (access_steps w t) ≤ 2)
own_few w t = by (may_access w t)
  where
    by : (b : Bool) → (1 ≤ length (if b then see t.index t.access ∷ mark t.index t.access ∷ [] else see t.index t.access ∷ [])) × (length (if b then see t.index t.access ∷ mark t.index t.access ∷ [] else see t.index t.access ∷ []) ≤ 2)
    by true = (omega arith, omega arith)
    by false = (omega arith, omega arith)

steps_cons : (w : List ℕ) (t : WordAccess) (ts : List WordAccess) → steps_of w (t ∷ ts) ≡ length (access_steps w t) + steps_of w ts
steps_cons w t ts = length-append (access_steps w t) (flat_map (access_steps w) ts)

pub steps_bound : (w : List ℕ) (ts : List WordAccess) → steps_of w ts ≤ 2 * length ts
steps_bound w [] = omega arith
steps_bound w (t ∷ ts) =
    let a : ℕ = length (access_steps w t) in let b : ℕ = steps_of w ts in let c : ℕ = steps_of w (t ∷ ts) in let n : ℕ = length ts in
    let c_is : c ≡ a + b = steps_cons w t ts in let few : a ≤ 2 = (own_few w t).1 in let rest : b ≤ 2 * n = steps_bound w ts in omega (arith, c_is, few, rest)

-- accesses that are left have a step each, at least
pub steps_left : (w : List ℕ) (ts : List WordAccess) (i : ℕ) → i ≤ length ts → steps_of w (take i ts) + length ts ≤ steps_of w ts + i
steps_left w [] zero within = omega arith
steps_left w [] (suc i) within = absurd (omega (arith, within))
steps_left w (t ∷ ts) zero within =
    let a : ℕ = length (access_steps w t) in let b : ℕ = steps_of w ts in let c : ℕ = steps_of w (t ∷ ts) in let n : ℕ = length ts in
    let c_is : c ≡ a + b = steps_cons w t ts in let some : 1 ≤ a = (own_few w t).0 in let none : ℕ = steps_of w (take 0 ts) in
    let rest : none + n ≤ b + 0 = steps_left w ts zero (omega arith) in omega (arith, c_is, some, rest)
steps_left w (t ∷ ts) (suc i) within =
    let a : ℕ = length (access_steps w t) in let b : ℕ = steps_of w ts in let c : ℕ = steps_of w (t ∷ ts) in let n : ℕ = length ts in
    let d : ℕ = steps_of w (take i ts) in let e : ℕ = steps_of w (t ∷ take i ts) in
    let c_is : c ≡ a + b = steps_cons w t ts in let e_is : e ≡ a + d = steps_cons w t (take i ts) in
    let rest : d + n ≤ b + i = steps_left w ts i (omega (arith, within)) in omega (arith, c_is, e_is, rest)

-- the steps of one access more
pub steps_more : (w : List ℕ) (ts : List WordAccess) (i : ℕ) (t : WordAccess) → i < length ts → t ≡ get_or ts i t → steps_of w (take (i + 1) ts) ≡ steps_of w (take i ts) + length (access_steps w t)
steps_more w ts i t less at =
    ap (steps_of w) (take_more ts i t less ∙ ap (λ u. take i ts ++ u ∷ []) (sym at)) ∙ ap length (flat_map-append (access_steps w) (take i ts) (t ∷ []))
    ∙ length-append (flat_map (access_steps w) (take i ts)) (flat_map (access_steps w) (t ∷ [])) ∙ ap (λ n. steps_of w (take i ts) + n) (length-append (access_steps w t) [] ∙ let n : ℕ = length (access_steps w t) in let z : n + 0 ≡ n = omega arith in z)

-- ---- where they stand

behind_some : (w : List ℕ) (ss bs : List Step) (n : ℕ) → slice_get (map (effect w) (ss ++ bs)) (length ss + n) ≡ slice_get (map (effect w) bs) n
behind_some w [] bs n = ap (slice_get (map (effect w) bs)) (zero-add n)
behind_some w (a ∷ ss) bs n = ap (slice_get (map (effect w) ((a ∷ ss) ++ bs))) (let m : ℕ = length ss in let e : suc m + n ≡ suc (m + n) = omega arith in e) ∙ behind_some w ss bs n

see_at : (w : List ℕ) (ts : List WordAccess) (i : ℕ) (t : WordAccess) → i < length ts → t ≡ get_or ts i t → slice_get (effects w (piece.Touch ts)) (steps_of w (take i ts)) ≡ Some (keeps t.index)
see_at w [] i t less at = absurd (omega (arith, less))
see_at w (u ∷ ts) zero t less at = by (may_access w u) ∙ ap (λ (v : WordAccess). Some (keeps v.index)) (sym at)
  where
    by : (b : Bool) → slice_get (map (effect w) ((if b then see u.index u.access ∷ mark u.index u.access ∷ [] else see u.index u.access ∷ []) ++ flat_map (access_steps w) ts)) 0 ≡ Some (keeps u.index)
    by true = refl
    by false = refl
see_at w (u ∷ ts) (suc i) t less at =
    ap (slice_get (effects w (piece.Touch (u ∷ ts)))) (steps_cons w u (take i ts)) ∙ behind_some w (access_steps w u) (flat_map (access_steps w) ts) (steps_of w (take i ts)) ∙ see_at w ts i t (omega (arith, less)) at

mark_at : (w : List ℕ) (ts : List WordAccess) (i : ℕ) (t : WordAccess) → i < length ts → t ≡ get_or ts i t → may_access w t ≡ true
    → slice_get (effects w (piece.Touch ts)) (steps_of w (take i ts) + 1) ≡ Some (adds t.index (status_bits (marks t.access)))
mark_at w [] i t less at may = absurd (omega (arith, less))
mark_at w (u ∷ ts) zero t less at may = by (may_access w u) (ap (may_access w) (sym at) ∙ may) ∙ ap (λ (v : WordAccess). Some (adds v.index (status_bits (marks v.access)))) (sym at)
  where
    by : (b : Bool) → b ≡ true → slice_get (map (effect w) ((if b then see u.index u.access ∷ mark u.index u.access ∷ [] else see u.index u.access ∷ []) ++ flat_map (access_steps w) ts)) (0 + 1) ≡ Some (adds u.index (status_bits (marks u.access)))
    by true is = refl
    by false is = absurd (cc)
mark_at w (u ∷ ts) (suc i) t less at may =
    let a : ℕ = length (access_steps w u) in let b : ℕ = steps_of w (take i ts) in let c : ℕ = steps_of w (u ∷ take i ts) in
    let c_is : c ≡ a + b = steps_cons w u (take i ts) in
    let same : c + 1 ≡ a + (b + 1) = omega (arith, c_is) in
    ap (slice_get (effects w (piece.Touch (u ∷ ts)))) same ∙ behind_some w (access_steps w u) (flat_map (access_steps w) ts) (steps_of w (take i ts) + 1) ∙ mark_at w ts i t (omega (arith, less)) at may

-- ---- at work

module _ (o : Opening) (phase : IsPhase o) (n k : ℕ) (job : TouchWork) (of : slice_get o.pieces n ≡ Some (piece.Touch job.touch)) (work : IsTouchWork o.words job k) where
  pub fits : job.answers.cap < 9223372036854775808 → length job.answers.items ≤ job.answers.cap → k + 1 < 18446744073709551616
  fits small inside =
      let extra : ℕ = if job.marks then 1 else 0 in
      let a : ℕ = k + extra in
      let b : ℕ = steps_of o.words (take job.seen job.touch) in
      let a_is : a ≡ b = work.steps in
      let c : ℕ = length (take job.seen job.touch) in
      let few : b ≤ 2 * c = steps_bound o.words (take job.seen job.touch) in
      let c_is : c ≡ job.seen = length-take-le job.seen job.touch work.within in
      let m : ℕ = length job.touch in
      let m_is : length job.answers.items ≡ m = work.many in
      omega (arith, a_is, few, c_is, work.within, m_is, small, inside)

  pub see_next : job.marks ≡ false → job.seen < length job.touch → (t : WordAccess) → t ≡ get_or job.touch job.seen t → next_step o ((n, k) ∷ []) ≡ Some (keeps t.index)
  see_next plain less t at =
      let k_is : k ≡ steps_of o.words (take job.seen job.touch) = (let z : k ≡ k + 0 = omega arith in z) ∙ ap (λ b. k + (if b then 1 else 0)) (sym plain) ∙ work.steps in
      next_is o n k (piece.Touch job.touch) (keeps t.index) of (ap (slice_get (effects o.words (piece.Touch job.touch))) k_is ∙ see_at o.words job.touch job.seen t less at)

  pub mark_next : (i : ℕ) → job.marks ≡ true → job.seen ≡ suc i → (t : WordAccess) → t ≡ get_or job.touch i t → may_access o.words t ≡ true → next_step o ((n, k) ∷ []) ≡ Some (adds t.index (status_bits (marks t.access)))
  mark_next i marking seen t at may =
      let less : i < length job.touch = omega (arith, seen, work.within) in
      let a : ℕ = steps_of o.words (take i job.touch) in
      let b : ℕ = steps_of o.words (take (i + 1) job.touch) in
      let own : length (access_steps o.words t) ≡ 2 = ap (λ c. length (if c then see t.index t.access ∷ mark t.index t.access ∷ [] else see t.index t.access ∷ [])) may in
      let more : b ≡ a + 2 = steps_more o.words job.touch i t less at ∙ ap (λ m. a + m) own in
      let whole : k + 1 ≡ b = ap (λ c. k + (if c then 1 else 0)) (sym marking) ∙ work.steps ∙ ap (λ j. steps_of o.words (take j job.touch)) (seen ∙ (let z : suc i ≡ i + 1 = omega arith in z)) in
      let k_is : k ≡ a + 1 = omega (arith, more, whole) in
      next_is o n k (piece.Touch job.touch) (adds t.index (status_bits (marks t.access))) of (ap (slice_get (effects o.words (piece.Touch job.touch))) k_is ∙ mark_at o.words job.touch i t less at may)

  pub access_within : (i : ℕ) (t : WordAccess) → i < length job.touch → t ≡ get_or job.touch i t → t.index < length o.words
  access_within i t less at = subst (λ (u : WordAccess). u.index < length o.words) (sym at) (accesses_within (length o.words) job.touch (names o phase n (piece.Touch job.touch) of) i t less)

  -- an access more is answered
  module _ (less : job.seen < length job.touch) (plain : job.marks ≡ false) (t : WordAccess) (at : t ≡ get_or job.touch job.seen t) (may : Bool) (is : may ≡ may_access o.words t) where
    pub saw_answered : take (job.seen + 1) (set job.answers.items job.seen may) ≡ map (may_access o.words) (take (job.seen + 1) job.touch)
    saw_answered =
        take_more_set job.answers.items job.seen may (omega (arith, less, work.many)) ∙ ap (λ bs. bs ++ may ∷ []) work.answered ∙ ap (λ b. map (may_access o.words) (take job.seen job.touch) ++ b ∷ []) is
        ∙ sym (ap (map (may_access o.words)) (take_more job.touch job.seen t less ∙ ap (λ u. take job.seen job.touch ++ u ∷ []) (sym at)) ∙ map-append (may_access o.words) (take job.seen job.touch) (t ∷ []))

    pub saw_steps : (k + 1) + (if may then 1 else 0) ≡ steps_of o.words (take (job.seen + 1) job.touch)
    saw_steps =
        let a : ℕ = steps_of o.words (take job.seen job.touch) in
        let b : ℕ = steps_of o.words (take (job.seen + 1) job.touch) in
        let own : ℕ = length (access_steps o.words t) in
        let own_is : own ≡ 1 + (if may then 1 else 0) = ap (λ c. length (if c then see t.index t.access ∷ mark t.index t.access ∷ [] else see t.index t.access ∷ [])) (sym is) ∙ by may in
        let more : b ≡ a + own = steps_more o.words job.touch job.seen t less at in
        let before : k + 0 ≡ a = ap (λ c. k + (if c then 1 else 0)) (sym plain) ∙ work.steps in
        let extra : ℕ = if may then 1 else 0 in
        let own_is' : own ≡ 1 + extra = own_is in
        omega (arith, own_is', more, before)
      where
        by : (c : Bool) → length (if c then see t.index t.access ∷ mark t.index t.access ∷ [] else see t.index t.access ∷ []) ≡ 1 + (if c then 1 else 0)
        by true = refl
        by false = refl

    pub saw_last : may ≡ true → (i : ℕ) × (job.seen + 1 ≡ suc i) × ((d : WordAccess) → may_access o.words (get_or job.touch i d) ≡ true)
    saw_last yes_may = (job.seen, omega arith, λ d. ap (may_access o.words) (get_or_default job.touch job.seen d t less ∙ sym at) ∙ sym is ∙ yes_may)

-- whether all steps were done
pub all_done : (w : List ℕ) (k : ℕ) (job : TouchWork) → IsTouchWork w job k → job.marks ≡ false → (job.seen == length job.touch) ≡ (k == steps_of w job.touch)
all_done w k job work plain = by (job.seen == length job.touch) refl
  where
    k_is : k ≡ steps_of w (take job.seen job.touch)
    k_is = (let z : k ≡ k + 0 = omega arith in z) ∙ ap (λ b. k + (if b then 1 else 0)) (sym plain) ∙ work.steps

    by : (t : Bool) → (job.seen == length job.touch) ≡ t → t ≡ (k == steps_of w job.touch)
    by true is = sym (eq-eqb k (steps_of w job.touch) (k_is ∙ ap (steps_of w) (ap (λ n. take n job.touch) (eqb-true job.seen (length job.touch) is) ∙ take_all (length job.touch) job.touch (omega arith))))
    by false is =
        let apart : job.seen ≢ length job.touch = λ same. true≢false (sym (eq-eqb job.seen (length job.touch) same) ∙ is) in
        let fewer : steps_of w (take job.seen job.touch) + length job.touch ≤ steps_of w job.touch + job.seen = steps_left w job.touch job.seen work.within in
        sym (ne_eqb k (steps_of w job.touch) (λ same. apart (let a : ℕ = steps_of w (take job.seen job.touch) in let b : ℕ = steps_of w job.touch in let a_is : k ≡ a = k_is in let same' : k ≡ b = same in let fewer' : a + length job.touch ≤ b + job.seen = fewer in omega (arith, a_is, same', fewer', work.within))))

pub not_yet : (w : List ℕ) (k : ℕ) (job : TouchWork) → IsTouchWork w job k → job.marks ≡ true → false ≡ (k == steps_of w job.touch)
not_yet w k job work marking =
    let a : ℕ = steps_of w (take job.seen job.touch) in
    let b : ℕ = steps_of w job.touch in
    let n : ℕ = length job.touch in
    let whole : k + 1 ≡ a = ap (λ c. k + (if c then 1 else 0)) (sym marking) ∙ work.steps in
    let fewer : a + n ≤ b + job.seen = steps_left w job.touch job.seen work.within in
    sym (ne_eqb k b (λ same. omega (arith, whole, fewer, work.within, same)))

-- ---- what a see finds

suit_take : (w : List ℕ) (n : ℕ) (es : List Effect) → AllSuit w es → AllSuit w (take n es)
suit_take w zero es suit = tt
suit_take w (suc n) [] suit = tt
suit_take w (suc n) (e ∷ es) suit = (suit.0, suit_take w n es suit.1)

pub done_suit : (w : List ℕ) (q : ℕ) (counts : ℕ → ℕ) (ps : List Piece) → list_all (λ i. is_some (entry_in w i)) (flat_map held ps) ≡ true → AllSuit w (done_from q counts (map (effects w) ps))
done_suit w q counts [] there = tt
done_suit w q counts (p ∷ ps) there =
    let parts = all_split (λ i. is_some (entry_in w i)) (held p) (flat_map held ps) there in
    suit_append w (take (counts q) (effects w p)) (done_from (q + 1) counts (map (effects w) ps)) (suit_take w (counts q) (effects w p) (piece_suits w p parts.0)) (done_suit w (q + 1) counts ps parts.1)

none_written : (es : List Effect) (n : ℕ) → writes_at es ≡ [] → writes_at (take n es) ≡ []
none_written es zero none = refl
none_written [] (suc n) none = refl
none_written (keeps i ∷ es) (suc n) none = none_written es n none
none_written (adds i bits ∷ es) (suc n) none = none_written es n none
none_written (writes i x ∷ es) (suc n) none = absurd (cc)

touches_write_none : (w : List ℕ) (q : ℕ) (counts : ℕ → ℕ) (ps : List Piece) → list_all is_touch ps ≡ true → writes_at (done_from q counts (map (effects w) ps)) ≡ []
touches_write_none w q counts [] all = refl
touches_write_none w q counts (piece.Strip s ∷ ps) all = absurd (cc)
touches_write_none w q counts (piece.Link s ∷ ps) all = absurd (cc)
touches_write_none w q counts (piece.Move s ∷ ps) all = absurd (cc)
touches_write_none w q counts (piece.Touch ts ∷ ps) all =
    flat_map-append write_at (take (counts q) (effects w (piece.Touch ts))) (done_from (q + 1) counts (map (effects w) ps))
    ∙ ap (λ js. js ++ writes_at (done_from (q + 1) counts (map (effects w) ps))) (none_written (effects w (piece.Touch ts)) (counts q) (touches_write w ts)) ∙ touches_write_none w (q + 1) counts ps all

-- where one piece is a touch, all are
one_touch : (ps : List Piece) (n : ℕ) (ts : List WordAccess) → slice_get ps n ≡ Some (piece.Touch ts) → list_any is_touch ps ≡ true
one_touch [] n ts at = absurd (cc)
one_touch (p ∷ ps) zero ts at = let is : p ≡ piece.Touch ts = cc in ap (λ q. is_touch q || list_any is_touch ps) is
one_touch (p ∷ ps) (suc n) ts at = by (is_touch p) (one_touch ps n ts at)
  where
    by : (b : Bool) → list_any is_touch ps ≡ true → (b || list_any is_touch ps) ≡ true
    by true h = refl
    by false h = h

all_touch : (ps : List Piece) (n : ℕ) (ts : List WordAccess) → are_alike ps ≡ true → slice_get ps n ≡ Some (piece.Touch ts) → list_all is_touch ps ≡ true
all_touch ps n ts alike at = by (list_all is_touch ps) (list_any is_touch ps) alike (one_touch ps n ts at)
  where
    by : (a b : Bool) → (a || not b) ≡ true → b ≡ true → a ≡ true
    by true b h is = refl
    by false true h is = h
    by false false h is = is

-- frame and rights are as at opening
pub page_found : (p : PostContent) → IsPhase p.shared.opening → (ts : List WordAccess) → slice_get p.shared.opening.pieces p.number ≡ Some (piece.Touch ts) → (i word : ℕ) → i < length p.shared.opening.words → IsFound p i word
    → (is_pack word ≡ true) × (page_of word ≡ page_of (get_or p.shared.opening.words i 0))
page_found p phase ts of i word within found =
    let o = p.shared.opening in
    let es : List Effect = done found.counts (steps_in o) in
    let suit : AllSuit o.words es = done_suit o.words 0 found.counts o.pieces phase.can.entries in
    let none : writes_at es ≡ [] = touches_write_none o.words 0 found.counts o.pieces (all_touch o.pieces p.number ts phase.can.alike of) in
    let word_is : word ≡ get_or (words_after o.words es) i 0 = found.found ∙ ap (λ k. word_after (get_or o.words i 0) k es) (sym (zero-add i)) ∙ sym (word_at 0 o.words es i within) in
    let many : length (words_after o.words es) ≡ length o.words = length_words 0 o.words es in (
      ap is_pack word_is ∙ packs_after_steps o.words es phase.can.packs suit i 0 (omega (arith, many, within)),
      ap page_of word_is ∙ same_page_after o.words es phase.can.packs suit i (ap (λ is. is_none_of is i) none),
    )

pub same_answer : (w : List ℕ) (t : WordAccess) (word : ℕ) (may : Bool) → page_of word ≡ page_of (get_or w t.index 0) → may ≡ option_map_or (λ e. has e.rights t.access) (entry_of word) false → may ≡ may_access w t
same_answer w t word may same is = is ∙ may_by_page (entry_of word) (entry_in w t.index) t.access same

-- with all steps done, all accesses are answered
pub all_answered : (w : List ℕ) (job : TouchWork) → IsTouchWork w job (steps_of w job.touch) → job.answers.items ≡ map (may_access w) job.touch
all_answered w job work = by job.marks refl
  where
    by : (t : Bool) → job.marks ≡ t → job.answers.items ≡ map (may_access w) job.touch
    by true is = absurd (true≢false (sym (not_yet w (steps_of w job.touch) job work is ∙ eq-eqb (steps_of w job.touch) (steps_of w job.touch) refl)))
    by false is =
        let seen : job.seen ≡ length job.touch = eqb-true job.seen (length job.touch) (all_done w (steps_of w job.touch) job work is ∙ eq-eqb (steps_of w job.touch) (steps_of w job.touch) refl) in
        sym (take_all job.seen job.answers.items (omega (arith, seen, work.many))) ∙ work.answered ∙ ap (map (may_access w)) (take_all job.seen job.touch (omega (arith, seen)))
