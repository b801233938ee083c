-- The fields of a record that are left.
use Rattle.std.proofs.Common.{◌≡◌, ℕ, zero, suc, ◌+◌, List, [], ◌∷◌, drop, Option, Some, None, IfSome, Bor, refl, sym, ap, ◌∙◌, add-one}
use Rattle.std.specs.Option.{option_map}
use Rattle.csv.specs.Records.{field_at}
use Rattle.trace.specs.Parts.{Takes}

one_left : (fs : List (List ℕ)) (i : ℕ) (x : List ℕ) → field_at fs i ≡ Some x → drop i fs ≡ x ∷ drop (suc i) fs
unfolding field_at
one_left [] i x h = cc
one_left (f ∷ fs) zero x h = cc
one_left (f ∷ fs) (suc i) x h = one_left fs i x h

none_left : (fs : List (List ℕ)) (i : ℕ) → field_at fs i ≡ None → drop i fs ≡ []
unfolding field_at
none_left [] zero h = refl
none_left [] (suc i) h = refl
none_left (f ∷ fs) zero h = cc
none_left (f ∷ fs) (suc i) h = none_left fs i h

-- what the iterator gives at a place is the next field
pub taken : (fs : List (List ℕ)) (i j : ℕ) (field : Option (Bor (List ℕ))) → option_map (λ f. f.now) field ≡ field_at fs i → IfSome field (λ _. j ≡ i + 1) → Takes (drop i fs) field (drop j fs)
taken fs i j None is next = none_left fs i (sym is)
taken fs i j (Some f) is next = one_left fs i f.now (sym is) ∙ ap (λ k. f.now ∷ drop k fs) (sym (next ∙ add-one i))
