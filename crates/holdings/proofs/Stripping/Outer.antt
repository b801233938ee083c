-- To strip some of the named places from which all named ones derive is to strip all of them.
use Rattle.std.proofs.Common.{◌≡◌, true, false, Bool, ◌&&◌, ◌||◌, refl, sym, ap, ◌∙◌, arith}
use Rattle.std.proofs.lemmas.Bool.{and_parts, false_from_ne_true}
use Rattle.fpage.specs.declared.rights.Rights.{Rights}
use Rattle.fpage.proofs.Truth.{same_truth}
use Rattle.space.specs.declared.place.Place.{Place}
use Rattle.model.specs.Definitions.Holdings.{Holdings, PlaceSet, is_held}
use Rattle.model.specs.Definitions.Derived.{is_under, is_below}
use Rattle.model.specs.Definitions.Strip.{strip, strip_word, is_narrowed}
use Rattle.model.proofs.LawfulParts.{IsLawful}
use Rattle.model.proofs.Chains.{in_below, under_within, below_within, under_same, below_same}
use Rattle.model.proofs.StripUnions.{word_alike, strip_alike}

module _ (h : Holdings) (l : IsLawful h) (C X : PlaceSet) (named : (q : Place) → C q ≡ true → X q ≡ true) (covers : (q : Place) → is_held h q ≡ true → X q ≡ true → is_below h C q ≡ true) where
  -- those that are held
  abbrev held : PlaceSet
  held q = X q && is_held h q

  held_same : (q : Place) → is_held h q ≡ true → X q ≡ held q
  held_same q is = all (X q) (is_held h q) is
    where
      all : (a b : Bool) → b ≡ true → a ≡ (a && b)
      all a b is = grind arith

  there : (q : Place) → C q ≡ true → is_below h X q ≡ true
  there q is = in_below h l X q (named q is)

  back : (q : Place) → held q ≡ true → is_below h C q ≡ true
  back q is = let parts = and_parts (X q) (is_held h q) is in covers q parts.1 parts.0

  pub below_is : (p : Place) → is_held h p ≡ true → is_below h C p ≡ is_below h X p
  below_is p is = same_truth (is_below h C p) (is_below h X p) (below_within h l C X there p) (λ below. below_within h l held C back p (sym (below_same h l X held held_same p is) ∙ below))

  under_is : (p : Place) → is_held h p ≡ true → is_under h C p ≡ is_under h X p
  under_is p is = same_truth (is_under h C p) (is_under h X p) (under_within h l C X there p) (λ under. under_within h l held C back p (sym (under_same h l X held held_same p is) ∙ under))

  narrowed_is : (f : Bool) (p : Place) → is_held h p ≡ true → is_narrowed h C f p ≡ is_narrowed h X f p
  narrowed_is f p is = ap (λ b. b || (f && C p)) (under_is p is) ∙ by (is_under h X p) refl
    where
      own : (c u x f : Bool) → u ≡ false → (c || u) ≡ true → x ≡ true → (u || (f && c)) ≡ (u || (f && x))
      own c u x f not_u either_is is = grind arith

      none : (c u x f : Bool) → c ≡ false → x ≡ false → (u || (f && c)) ≡ (u || (f && x))
      none c u x f not_c is = grind arith

      by : (u : Bool) → is_under h X p ≡ u → (is_under h X p || (f && C p)) ≡ (is_under h X p || (f && X p))
      by true under = rw under refl
      by false not_under = by_x (X p) refl
        where
          by_x : (x : Bool) → X p ≡ x → (is_under h X p || (f && C p)) ≡ (is_under h X p || (f && X p))
          by_x true in_x = own (C p) (is_under h X p) (X p) f not_under (ap (λ u. C p || u) (sym (under_is p is)) ∙ covers p is in_x) in_x
          by_x false out = none (C p) (is_under h X p) (X p) f (false_from_ne_true _ (λ in_c. cc (named p in_c, out))) out

  pub outer_word : strip_word h C ≡ strip_word h X
  outer_word = word_alike h l C X below_is

  pub outer_strip : (a : Rights) (f : Bool) → strip h C a f ≡ strip h X a f
  outer_strip a f = strip_alike h l C X below_is a f (narrowed_is f)
