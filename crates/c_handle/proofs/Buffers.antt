-- A buffer over which a list is written from the front, as far as there is room.
use Rattle.std.proofs.Common.{◌≡◌, ℕ, ◌+◌, ◌<◌, ◌≤◌, suc, List, [], ◌∷◌, ◌++◌, length, take, drop, set, get_or, refl, sym, ap, ◌∙◌, subst, arith, append_assoc, append-nil, length-append, length-drop, add-one}
use Rattle.std.proofs.Math.Seq.{set-append_seam, drop-cons}
use Rattle.std.proofs.lemmas.List.{length-take, take_all, take-append-le}
use Rattle.c_handle.specs.Listed.{IsWritten, WritesBehind}

-- at first nothing is written
pub written_none : {A : Type 0} (old : List A) → IsWritten old [] old 0
written_none [] = record { counted = refl; left = refl }
written_none (x ∷ old) = record { counted = refl; left = refl }

-- a buffer keeps its length
pub written_length : {A : Type 0} {old xs new : List A} {count : ℕ} → IsWritten old xs new count → length new ≡ length old
written_length {A} {old} {xs} {new} {count} w =
    let written = take (length old) xs in
    let some = length-take (length old) xs in
    ap length w.left ∙ length-append written (drop (length written) old) ∙ omega (arith, length-drop (length written) old, some)

-- where there is room, all was written
pub all_written : {A : Type 0} {old xs new : List A} {count : ℕ} → IsWritten old xs new count → count < length old → take (length old) xs ≡ xs
all_written {A} {old} {xs} w room = take_all (length old) xs (omega (arith, length-take (length old) xs, w.counted))

-- one more
pub written_more : {A : Type 0} {old xs new : List A} {count : ℕ} → IsWritten old xs new count → count < length new → (x : A) → IsWritten old (xs ++ (x ∷ [])) (set new count x) (count + 1)
written_more {A} {old} {xs} {new} {count} w room x =
    let there : count < length old = subst (λ n. count < n) (written_length w) room in
    let all = all_written w there in
    let many : count ≡ length xs = w.counted ∙ ap length all in
    let some : length xs < length old = omega (arith, many, there) in
    let more : length (xs ++ (x ∷ [])) ≤ length old = omega (arith, length-append xs (x ∷ []), some) in
    let all_more = take_all (length old) (xs ++ (x ∷ [])) more in
    let new_is : new ≡ xs ++ drop (length xs) old = w.left ∙ ap (λ l. l ++ drop (length l) old) all in
    let next = drop-cons old (length xs) x some in
    let longer : length (xs ++ (x ∷ [])) ≡ suc (length xs) = length-append xs (x ∷ []) ∙ add-one (length xs) in
    record {
      counted = sym (ap length all_more ∙ length-append xs (x ∷ []) ∙ ap (λ n. n + 1) (sym many));
      left =
          (λ i. set (new_is i) (many i) x) ∙ ap (λ l. set (xs ++ l) (length xs) x) next ∙ set-append_seam xs (get_or old (length xs) x) (drop (suc (length xs)) old) x
          ∙ sym (append_assoc xs (x ∷ []) (drop (suc (length xs)) old)) ∙ ap (λ n. (xs ++ (x ∷ [])) ++ drop n old) (sym longer)
          ∙ ap (λ l. l ++ drop (length l) old) (sym all_more);
    }

-- a full buffer takes no more
pub written_full : {A : Type 0} {old xs new : List A} {count : ℕ} → IsWritten old xs new count → count ≡ length new → (more : List A) → IsWritten old (xs ++ more) new count
written_full {A} {old} {xs} {new} {count} w full more =
    let many : length old ≤ length xs = omega (arith, full, written_length w, w.counted, length-take (length old) xs) in
    let same = take-append-le (length old) xs more many in
    record {
      counted = w.counted ∙ ap length (sym same);
      left = w.left ∙ ap (λ l. l ++ drop (length l) old) (sym same);
    }

module _ {A : Type 0} (before : List A) (count : ℕ) where
  pub writes_none : WritesBehind before count [] before count
  writes_none old xs w = subst (λ l. IsWritten old l before count) (sym (append-nil xs)) w

  pub writes_more : (more after : List A) (result : ℕ) → WritesBehind before count more after result → result < length after → (x : A) → WritesBehind before count (more ++ (x ∷ [])) (set after result x) (result + 1)
  writes_more more after result writes room x old xs w =
      subst (λ l. IsWritten old l (set after result x) (result + 1)) (append_assoc xs more (x ∷ [])) (written_more (writes old xs w) room x)

  pub writes_full : (more after : List A) (result : ℕ) → WritesBehind before count more after result → result ≡ length after → (rest : List A) → WritesBehind before count (more ++ rest) after result
  writes_full more after result writes full rest old xs w =
      subst (λ l. IsWritten old l after result) (append_assoc xs more rest) (written_full (writes old xs w) full rest)

  pub writes_both : (more after : List A) (result : ℕ) → WritesBehind before count more after result → (others last : List A) (end : ℕ) → WritesBehind after result others last end → WritesBehind before count (more ++ others) last end
  writes_both more after result writes others last end then_others old xs w =
      subst (λ l. IsWritten old l last end) (append_assoc xs more others) (then_others old (xs ++ more) (writes old xs w))
