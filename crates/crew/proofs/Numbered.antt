-- Lists by positions.
use Rattle.std.proofs.Common.{◌≡◌, ℕ, zero, suc, ◌+◌, ◌<◌, List, [], ◌∷◌, ◌++◌, length, take, drop, get_or, Some, ap, ◌∙◌, arith}
use Rattle.std.specs.Prelude.{slice_get}
use Rattle.std.proofs.lemmas.List.{take_more, take_all, take-append-le}
use Rattle.std.proofs.lemmas.Option.{slice_get_within, get_or_from_slice_get}

-- one element more
pub take_next : {A : Type 0} → (xs : List A) (k : ℕ) (x : A) → slice_get xs k ≡ Some x → take (k + 1) xs ≡ take k xs ++ x ∷ []
take_next xs k x at = take_more xs k x (slice_get_within xs k x at) ∙ ap (λ y. take k xs ++ y ∷ []) (get_or_from_slice_get xs k x x at)

-- a list that is written over its own place
pub over_all : {A : Type 0} → (n : ℕ) (xs ys : List A) → n ≡ length ys → length xs ≡ length ys → take n (xs ++ drop (length xs) ys) ≡ xs
over_all n xs ys many same = take-append-le n xs (drop (length xs) ys) (omega (arith, many, same)) ∙ take_all n xs (omega (arith, many, same))

-- elements that are numbered from one on, and one more
pub numbered_more : {A : Type 0} → (f : A → ℕ) (n : ℕ) (xs : List A) (x : A) → ((k : ℕ) (d : A) → k < length xs → f (get_or xs k d) ≡ n + k) → f x ≡ n + length xs
    → (k : ℕ) (d : A) → k < length (xs ++ x ∷ []) → f (get_or (xs ++ x ∷ []) k d) ≡ n + k
numbered_more f n [] x are is zero d less = is
numbered_more f n [] x are is (suc k) d less = absurd (omega (arith, less))
numbered_more f n (y ∷ xs) x are is zero d less = are zero d (omega arith)
numbered_more f n (y ∷ xs) x are is (suc k) d less =
    let there : n + suc (length xs) ≡ (n + 1) + length xs = omega arith in let back : (n + 1) + k ≡ n + suc k = omega arith in
    numbered_more f (n + 1) xs x (λ j e low. let shift : n + suc j ≡ (n + 1) + j = omega arith in are (suc j) e (omega (arith, low)) ∙ shift) (is ∙ there) k d (omega (arith, less)) ∙ back
