-- Tests of lists of pieces, piece by piece.
use Rattle.std.proofs.Common.{◌≡◌, ℕ, Bool, true, false, ◌&&◌, not, List, [], ◌∷◌, length, nat_lt, is_some, refl, ap, ◌∙◌, sym}
use Rattle.std.specs.List.{flat_map, list_all, list_any}
use Rattle.std.proofs.lemmas.Bool.{ltb-true, lt-ltb}
use Rattle.std.proofs.lemmas.List.Folds.{list_all-append}
use Rattle.std.proofs.lemmas.List.Sums.{AllPass-from_list_all, list_all-from_AllPass}
use Rattle.std.specs.Ordering.{nat_cmp, is_eq}
use Rattle.space.specs.Word.{is_pack}
use Rattle.pieces.specs.Distinct.{is_none_of, are_distinct}
use Rattle.pieces.specs.Steps.{entry_in}
use Rattle.pieces.specs.Phases.{changes, folds, named, held, are_alike, CanBeWorked}
use Rattle.pieces.specs.Readiness.{words_suit, are_apart}
use Rattle.pieces.specs.declared.piece.Piece.{Piece}

both : (a b : Bool) → (a && b) ≡ true → (a ≡ true) × (b ≡ true)
both true true h = (refl, refl)
both true false h = absurd (cc)
both false b h = absurd (cc)

and_true : (a b : Bool) → a ≡ true → b ≡ true → (a && b) ≡ true
and_true true true p q = refl
and_true true false p q = absurd (cc)
and_true false b p q = absurd (cc)

-- a test of all that is made of each of some
pub all_flat : {A B : Type 0} (test : B → Bool) (f : A → List B) (xs : List A) → list_all (λ x. list_all test (f x)) xs ≡ list_all test (flat_map f xs)
all_flat test f [] = refl
all_flat test f (x ∷ xs) = ap (λ b. list_all test (f x) && b) (all_flat test f xs) ∙ sym (list_all-append test (f x) (flat_map f xs))

-- a test of two that are made of each
pub all_twos : {A B : Type 0} (test : B → Bool) (f g : A → B) (xs : List A) → list_all (λ x. test (f x) && test (g x)) xs ≡ list_all test (flat_map (λ x. f x ∷ g x ∷ []) xs)
all_twos test f g [] = refl
all_twos test f g (x ∷ xs) = ap (λ b. (test (f x) && test (g x)) && b) (all_twos test f g xs) ∙ by (test (f x)) (test (g x)) (list_all test (flat_map (λ y. f y ∷ g y ∷ []) xs))
  where
    by : (a b d : Bool) → ((a && b) && d) ≡ (a && (b && d))
    by true b d = refl
    by false b d = refl

-- two tests of which each answers as the other
all_alike : {A : Type 0} (f g : A → Bool) → ((x : A) → f x ≡ g x) → (xs : List A) → list_all f xs ≡ list_all g xs
all_alike f g same [] = refl
all_alike f g same (x ∷ xs) = ap (λ b. b && list_all f xs) (same x) ∙ ap (λ b. g x && b) (all_alike f g same xs)

not_not : (b : Bool) → not (not b) ≡ b
not_not true = refl
not_not false = refl

-- a set of the indexes that are changed tells of each fold word whether it is one of them
pub apart_by_keys : (keys is : List ℕ) (ps : List Piece) → is ≡ flat_map changes ps → true ≡ are_distinct is
    → ((i : ℕ) → list_any (λ k. is_eq (nat_cmp i k)) keys ≡ not (is_none_of is i)) → list_all (λ p. list_all (λ i. not (list_any (λ k. is_eq (nat_cmp i k)) keys)) (folds p)) ps ≡ are_apart ps
apart_by_keys keys is ps all distinct known =
    all_flat (λ i. not (list_any (λ k. is_eq (nat_cmp i k)) keys)) folds ps
    ∙ all_alike (λ i. not (list_any (λ k. is_eq (nat_cmp i k)) keys)) (is_none_of is) (λ i. ap not (known i) ∙ not_not (is_none_of is i)) (flat_map folds ps)
    ∙ ap (λ b. b && list_all (is_none_of is) (flat_map folds ps)) distinct ∙ ap (λ js. are_distinct js && list_all (is_none_of js) (flat_map folds ps)) all

-- the tests are what is asked
pub can_work : (w : List ℕ) (ps : List Piece) → words_suit w ps ≡ true → are_apart ps ≡ true → CanBeWorked w ps
can_work w ps suit apart =
    let s4 = both _ (are_alike ps) suit in
    let s3 = both _ (list_all (λ i. is_some (entry_in w i)) (flat_map held ps)) s4.0 in
    let s2 = both _ (list_all (λ i. nat_lt i (length w)) (flat_map named ps)) s3.0 in
    let s1 = both (nat_lt 0 (length w)) (list_all is_pack w) s2.0 in
    let a = both (are_distinct (flat_map changes ps)) _ apart in record {
      some = ltb-true 0 (length w) s1.0;
      packs = AllPass-from_list_all is_pack w s1.1;
      within = s2.1;
      entries = s3.1;
      distinct = a.0;
      apart = a.1;
      alike = s4.1;
    }

pub words_must_suit : (w : List ℕ) (ps : List Piece) → CanBeWorked w ps → words_suit w ps ≡ true
words_must_suit w ps can =
    and_true _ (are_alike ps)
    (and_true _ (list_all (λ i. is_some (entry_in w i)) (flat_map held ps))
    (and_true _ (list_all (λ i. nat_lt i (length w)) (flat_map named ps)) (and_true (nat_lt 0 (length w)) (list_all is_pack w) (lt-ltb 0 (length w) can.some) (list_all-from_AllPass is_pack w can.packs)) can.within)
    can.entries)
    can.alike

pub must_be_apart : (w : List ℕ) (ps : List Piece) → CanBeWorked w ps → are_apart ps ≡ true
must_be_apart w ps can = and_true (are_distinct (flat_map changes ps)) (list_all (is_none_of (flat_map changes ps)) (flat_map folds ps)) can.distinct can.apart

-- words that do not suit, or else pieces that are apart or not
pub no_words : (w : List ℕ) (ps : List Piece) → words_suit w ps ≡ false → (false ≡ true → CanBeWorked w ps) × (CanBeWorked w ps → false ≡ true)
no_words w ps not_so = (λ h. absurd (by h), λ can. sym not_so ∙ words_must_suit w ps can)
  where
    by : false ≡ true → ⊥
    by h = cc

pub both_tests : (w : List ℕ) (ps : List Piece) (apart : Bool) → words_suit w ps ≡ true → apart ≡ are_apart ps → (apart ≡ true → CanBeWorked w ps) × (CanBeWorked w ps → apart ≡ true)
both_tests w ps apart suit is = (λ h. can_work w ps suit (sym is ∙ h), λ can. is ∙ must_be_apart w ps can)
