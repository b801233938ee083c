-- What a send asks for, once its words were read.
use Rattle.std.proofs.Common.{◌≡◌, ℕ, ◌%◌, ◌<◌, ◌≤◌, ◌==◌, ◌&&◌, ◌⊎◌, inl, inr, Bool, true, false, nat_le, List, length, Some, None, Result, Ok, Err, if◌then◌else◌, ap, ◌∙◌, arith}
use Rattle.std.proofs.lemmas.Bool.{eq-eqb, le-leb, ne_eqb}
use Rattle.std.proofs.lemmas.Bool.Decides.{nat_tests}
use Rattle.fpage.specs.Fpage.{Flexpage, read_fpage}
use Rattle.fpage.specs.declared.item.Item.{Item}
use Rattle.fpage.specs.declared.error.FpageError.{FpageError}
use Rattle.model.specs.Definitions.Calls.{Limits, send, bad_record, refusal_of, Request}
use Rattle.model.specs.Definitions.Records.{SendFields, are_item_words, or_refused, read_items, send_request}
use Rattle.c_handle.specs.Asked.{send_asked}

-- a number of words that is served
pub are_words : (words : List ℕ) → length words % 2 ≡ 0 → 2 ≤ length words → length words ≤ 62 → are_item_words words ≡ true
are_words words even some few = λ j. eq-eqb (length words % 2) 0 even j && le-leb 2 (length words) some j && le-leb (length words) 62 few j

-- a number that is not
pub not_words : (words : List ℕ) → (length words % 2 ≡ 0 → ⊥) ⊎ (length words < 2) ⊎ (62 < length words) → are_item_words words ≡ false
not_words words (inl odd) = ap (λ b. b && nat_le 2 (length words) && nat_le (length words) 62) (ne_eqb (length words % 2) 0 odd)
not_words words (inr (inl few)) = by (length words % 2 == 0) (length words) few
  where
    by : (b : Bool) (n : ℕ) → n < 2 → (b && nat_le 2 n && nat_le n 62) ≡ false
    by b n few = grind (arith, nat_tests)
not_words words (inr (inr many)) = by (length words % 2 == 0) (length words) many
  where
    by : (b : Bool) (n : ℕ) → 62 < n → (b && nat_le 2 n && nat_le n 62) ≡ false
    by b n many = grind (arith, nat_tests)

module _ (from to window : ℕ) (words : List ℕ) (limits : Limits) where
  -- such a send is refused
  pub words_refused : are_item_words words ≡ false → send_asked from to window words limits ≡ Err bad_record
  words_refused not_served =
      let fields : SendFields = record { from = from; to = to; window = window; words = words } in
      ap (λ b. send_request limits (if b then Some fields else None)) not_served

  -- the window is refused
  pub window_refused : are_item_words words ≡ true → (e : FpageError) → read_fpage limits.bits window ≡ Err e
      → send_asked from to window words limits ≡ Err (refusal_of e)
  window_refused served e is =
      let fields : SendFields = record { from = from; to = to; window = window; words = words } in
      ap (λ b. send_request limits (if b then Some fields else None)) served
      ∙ ap (λ r. or_refused r (λ w. or_refused (read_items limits.bits words) (λ items. Ok (send from to w items)))) is

module _ (from to window : ℕ) (words : List ℕ) (limits : Limits) (served : are_item_words words ≡ true) (f : Flexpage) (window_is : read_fpage limits.bits window ≡ Ok f) where
  abbrev items_asked : Result (List Item) FpageError → Request
  items_asked read = or_refused read (λ items. Ok (send from to f items))

  until_items : send_asked from to window words limits ≡ items_asked (read_items limits.bits words)
  until_items =
      let fields : SendFields = record { from = from; to = to; window = window; words = words } in
      ap (λ b. send_request limits (if b then Some fields else None)) served
      ∙ ap (λ r. or_refused r (λ w. or_refused (read_items limits.bits words) (λ items. Ok (send from to w items)))) window_is

  -- its items were read
  pub send_is : (items : List Item) → read_items limits.bits words ≡ Ok items → send_asked from to window words limits ≡ Ok (send from to f items)
  send_is items read = until_items ∙ ap items_asked read

  -- an item is refused
  pub send_refused : (e : FpageError) → read_items limits.bits words ≡ Err e → send_asked from to window words limits ≡ Err (refusal_of e)
  send_refused e read = until_items ∙ ap items_asked read
