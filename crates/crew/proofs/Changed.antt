-- A list is changed at once, or in two parts.
use Rattle.std.proofs.Common.{◌≡◌, ◌∙◌, ◌+◌, ◌++◌, ℕ, List, [], length, arith, refl, sym, ap, subst, append_assoc, MutBor, Result, Ok, Err, Option}
use Rattle.std.specs.Result.{OnOk}
use Rattle.std.proofs.lemmas.List.{append-nil, length-append}
use Rattle.crew.specs.Changes.{MayChange, IsChanged, at_once, in_two}

module _ {T : Type 0} (pre : ℕ → MutBor (List T) → Type 0) (start : ℕ) where
  pub given_all : (xs : List T) → MayChange pre start xs → (part : MutBor (List T)) → part.now ≡ xs → pre start part
  given_all xs may part is = subst (λ n. pre n part) (omega arith) (may [] [] part (append-nil part.now ∙ is))

  pub given_behind : (front behind xs : List T) → xs ≡ front ++ behind → MayChange pre start xs → (middle : ℕ) → middle ≡ start + length front → MayChange pre middle behind
  given_behind front behind xs are may middle at first last part is =
      let same : front ++ first ++ part.now ++ last ≡ front ++ (first ++ part.now ++ last) = simp append_assoc in
      subst (λ n. pre n part) (omega (arith, length-append front first, at)) (may (front ++ first) last part (same ∙ ap (λ l. front ++ l) is ∙ sym are))

module _ {T E : Type 0} (post : ℕ → MutBor (List T) → Result (Unit {0}) E → MutBor (List T) → Type 0) (start : ℕ) where
  pub changed_at_once : (before after : MutBor (List T)) (result : Result (Unit {0}) E) → post start before result after → OnOk result (IsChanged post start before.now after.now)
  changed_at_once before after (Ok tt) call = at_once start before after call
  changed_at_once before after (Err e) call = tt

  pub changed_in_two : (front front' behind behind' xs : List T) → xs ≡ front ++ behind → (middle : ℕ) → middle ≡ start + length front → (result : Result (Unit {0}) E)
      → OnOk result (IsChanged post start front front') → OnOk result (IsChanged post middle behind behind') → OnOk result (IsChanged post start xs (front' ++ behind'))
  changed_in_two front front' behind behind' xs are middle at (Ok tt) first second =
      subst (λ l. IsChanged post start l (front' ++ behind')) (sym are) (in_two start front front' behind behind' first (subst (λ n. IsChanged post n behind behind') at second))
  changed_in_two front front' behind behind' xs are middle at (Err e) first second = tt

-- what calls of one function leave, those of another may leave too
module _ {T E : Type 0} (post post' : ℕ → MutBor (List T) → Result (Unit {0}) E → MutBor (List T) → Type 0)
    (same : (start : ℕ) (before after : MutBor (List T)) → post start before (Ok tt) after → (b : MutBor (List T)) × (a : MutBor (List T)) × (b.now ≡ before.now) × (a.now ≡ after.now) × post' start b (Ok tt) a) where
  pub changed_so : (start : ℕ) (xs ys : List T) → IsChanged post start xs ys → IsChanged post' start xs ys
  changed_so _ _ _ (at_once start before after call) =
      let (b, a, b_is, a_is, so) = same start before after call in
      subst (λ l. IsChanged post' start l after.now) b_is (subst (λ l. IsChanged post' start b.now l) a_is (at_once start b a so))
  changed_so _ _ _ (in_two start front front' behind behind' first second) =
      in_two start front front' behind behind' (changed_so start front front' first) (changed_so (start + length front) behind behind' second)

module _ {T E : Type 0} (post post' : ℕ → MutBor (List T) → Result (Unit {0}) E → MutBor (List T) → Type 0)
    (same : (start : ℕ) (before after : MutBor (List T)) → post start before (Ok tt) after → (b : MutBor (List T)) × (a : MutBor (List T)) × (b.now ≡ before.now) × (a.now ≡ after.now) × post' start b (Ok tt) a) where
  pub changed_by : (start : ℕ) (xs ys : List T) (result : Result (Unit {0}) E) → OnOk result (IsChanged post start xs ys) → OnOk result (IsChanged post' start xs ys)
  changed_by start xs ys (Ok tt) changed = changed_so post post' same start xs ys changed
  changed_by start xs ys (Err e) changed = tt
