-- Items and fpages from a list of words, the first ones read already.
use Rattle.std.proofs.Common.{◌≡◌, ℕ, suc, ◌+◌, ◌*◌, ◌<◌, ◌≤◌, take, drop, get_or, length, add-one, arith, ◌∙◌, List, [], ◌∷◌, ◌++◌, Result, Ok, Err, refl, sym, ap, append_assoc}
use Rattle.std.specs.List.{zip}
use Rattle.std.specs.Result.{IsErrAnd}
use Rattle.std.proofs.Math.Seq.{drop-cons}
use Rattle.std.proofs.lemmas.List.{take_more, length-take-le}
use Rattle.fpage.specs.declared.item.Item.{Item}
use Rattle.fpage.specs.declared.error.FpageError.{FpageError}
use Rattle.fpage.specs.Item.{read_item}
use Rattle.fpage.specs.Fpage.{Flexpage, read_fpage}
use Rattle.model.specs.Definitions.Calls.{Named}
use Rattle.model.specs.Definitions.Records.{read_items, with_item, read_words, with_named}
use Rattle.fields.specs.Words.{with_value}

-- items that were read, and those that follow, or the first refusal of those
abbrev pub items_after : List Item → Result (List Item) FpageError → Result (List Item) FpageError
items_after front (Ok items) = Ok (front ++ items)
items_after front (Err e) = Err e

pub items_after-start : (r : Result (List Item) FpageError) → items_after [] r ≡ r
items_after-start (Ok items) = refl
items_after-start (Err e) = refl

pub items_after-more : (bits w0 w1 : ℕ) (words : List ℕ) (front : List Item) (item : Item) → read_item bits w0 w1 ≡ Ok item → items_after front (read_items bits (w0 ∷ w1 ∷ words)) ≡ items_after (front ++ (item ∷ [])) (read_items bits words)
items_after-more bits w0 w1 words front item is =
    rw is (elim (read_items bits words) as (λ r. items_after front (with_item (Ok item) r) ≡ items_after (front ++ (item ∷ [])) r) [
      | Ok items ↦ ap Ok (sym (append_assoc front (item ∷ []) items))
      | Err e ↦ refl
    ])

pub items_after-refused : (bits w0 w1 : ℕ) (words : List ℕ) (front : List Item) (e : FpageError) → read_item bits w0 w1 ≡ Err e → items_after front (read_items bits (w0 ∷ w1 ∷ words)) ≡ Err e
items_after-refused bits w0 w1 words front e is = rw is refl

-- the next two words
pub two_next : (words : List ℕ) (i : ℕ) → 2 * i + 1 < length words → drop (2 * i) words ≡ get_or words (2 * i) 0 ∷ get_or words (2 * i + 1) 0 ∷ drop (2 * (i + 1)) words
two_next words i more =
    let after : 2 * (i + 1) ≡ suc (suc (2 * i)) = omega arith in
    let second : 2 * i + 1 ≡ suc (2 * i) = omega arith in
    rw (after, second) (drop-cons words (2 * i) 0 (omega arith) ∙ ap (λ rest. get_or words (2 * i) 0 ∷ rest) (drop-cons words (suc (2 * i)) 0 (omega arith)))

-- words that are refused by an error
pub value_refused : {A B : Type 0} (x : A) (defined : Result A FpageError) (r : Result B FpageError) (e : FpageError) → Err e ≡ defined → IsErrAnd r (λ w. w ≡ e) → with_value x r ≡ defined
value_refused x defined (Ok y) e is h = absurd h
value_refused x defined (Err w) e is h = ap Err h ∙ is

-- ---- the words of an unmap

-- words that were read, and those that follow, or the first refusal of those
abbrev pub named_after : List Named → Result (List Named) FpageError → Result (List Named) FpageError
named_after front (Ok named) = Ok (front ++ named)
named_after front (Err e) = Err e

pub named_after-start : (r : Result (List Named) FpageError) → named_after [] r ≡ r
named_after-start (Ok named) = refl
named_after-start (Err e) = refl

pub named_after-more : (bits w : ℕ) (ws : List ℕ) (front : List Named) (f : Flexpage) → read_fpage bits w ≡ Ok f → named_after front (read_words bits (w ∷ ws)) ≡ named_after (front ++ ((w, f) ∷ [])) (read_words bits ws)
named_after-more bits w ws front f is =
    rw is (elim (read_words bits ws) as (λ r. named_after front (with_named w (Ok f) r) ≡ named_after (front ++ ((w, f) ∷ [])) r) [
      | Ok named ↦ ap Ok (sym (append_assoc front ((w, f) ∷ []) named))
      | Err e ↦ refl
    ])

pub named_after-refused : (bits w : ℕ) (ws : List ℕ) (front : List Named) (e : FpageError) → read_fpage bits w ≡ Err e → named_after front (read_words bits (w ∷ ws)) ≡ Err e
named_after-refused bits w ws front e is = rw is refl

zip_push : {A B : Type 0} (xs : List A) (ys : List B) (x : A) (y : B) → length ys ≡ length xs → zip (xs ++ (x ∷ [])) (ys ++ (y ∷ [])) ≡ zip xs ys ++ ((x, y) ∷ [])
zip_push [] [] x y same = refl
zip_push [] (b ∷ ys) x y same = absurd (omega (arith, same))
zip_push (a ∷ xs) [] x y same = absurd (omega (arith, same))
zip_push (a ∷ xs) (b ∷ ys) x y same = ap (λ l. (a, b) ∷ l) (zip_push xs ys x y (omega (arith, same)))

-- the next word with its fpage
pub named_next : (bits : ℕ) (words : List ℕ) (i : ℕ) (fpages : List Flexpage) (f : Flexpage) (all : Result (List Named) FpageError) → i < length words → length fpages ≡ i → read_fpage bits (get_or words i 0) ≡ Ok f
    → named_after (zip (take i words) fpages) (read_words bits (drop i words)) ≡ all
    → named_after (zip (take (i + 1) words) (fpages ++ (f ∷ []))) (read_words bits (drop (i + 1) words)) ≡ all
named_next bits words i fpages f all more count is before =
    let word = get_or words i 0 in
    let rest = drop (suc i) words in
    let front = zip (take i words) fpages in
    let next = drop-cons words i 0 more in
    let many : i ≤ length words = omega (arith, more) in
    let paired : zip (take (i + 1) words) (fpages ++ (f ∷ [])) ≡ front ++ ((word, f) ∷ []) =
    ap (λ ws. zip ws (fpages ++ (f ∷ []))) (take_more words i 0 more) ∙ zip_push (take i words) fpages word f (count ∙ sym (length-take-le i words many)) in
    (λ j. named_after (paired j) (read_words bits (drop (add-one i j) words)))
    ∙ sym (named_after-more bits word rest front f is)
    ∙ ap (λ ws. named_after front (read_words bits ws)) (sym next)
    ∙ before
