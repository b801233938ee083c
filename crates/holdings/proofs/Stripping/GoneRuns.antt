-- The outermost runs of a tree whose places have no entry, found one after another, and the tree without them.
use Rattle.std.proofs.Common.{◌≡◌, ℕ, zero, suc, ◌+◌, ◌-◌, ◌<◌, ◌≤◌, true, false, Bool, not, List, [], ◌∷◌, ◌++◌, length, Option, Some, None, refl, sym, ap, ◌∙◌, subst, arith, ◌⊎◌, inl, inr}
use Rattle.std.specs.List.{list_all, slice_range}
use Rattle.std.specs.Option.{option_and_then}
use Rattle.std.specs.declared.ops.Range.{Range}
use Rattle.std.proofs.lemmas.Bool.{and_from, and_parts, cases_lt, false_from_ne_true, le-leb, lt-ltb, ltb-true}
use Rattle.std.proofs.lemmas.Option.{same_Some}
use Rattle.std.proofs.lemmas.List.Elements.{All-nil, All-push}
use Rattle.std.proofs.lemmas.List.Folds.{list_all-append}
use Rattle.space.specs.declared.place.Place.{Place}
use Rattle.space.specs.declared.shards.Shards.{Shards}
use Rattle.maptree.specs.Origins.{Origins, place_at, origin_in, after_origins, IsRun, AreRising, LiesInOne}
use Rattle.maptree.specs.Cuts.{outside}
use Rattle.maptree.proofs.Outermost.{rising_more, rising_push, lies_front, lies_last}
use Rattle.holdings.specs.Inner.Held.{has_entry}
use Rattle.holdings.specs.Inner.Stripping.{AreGoneUpTo, OriginsHaveEntries, pruned}
use Rattle.holdings.proofs.Trees.Pruning.{all_gone, range_fails}
use Rattle.holdings.proofs.Stripping.Frames.{all_outside, all_slice}

-- one chain of origins behind another
on : (os : Origins) (m n both : ℕ) (p q r : Place) → both ≡ m + n → after_origins m os p ≡ Some q → after_origins n os q ≡ Some r → after_origins both os p ≡ Some r
on os zero n both p q r size first second = let is : both ≡ n = omega (arith, size) in rw is (ap (after_origins n os) (same_Some p q first) ∙ second)
on os (suc m) n zero p q r size first second = absurd (omega (arith, size))
on os (suc m) n (suc both) p q r size first second = by (origin_in os p) first (λ o leads. on os m n both o q r (omega (arith, size)) leads second)
  where
    by : (o : Option Place) → option_and_then (after_origins m os) o ≡ Some q → ((o : Place) → after_origins m os o ≡ Some q → after_origins both os o ≡ Some r) → option_and_then (after_origins both os) o ≡ Some r
    by None leads further = absurd (cc leads)
    by (Some o) leads further = further o leads

-- a run of a place in another run ends in it
pub run_in_run : (os : Origins) (a b : Range ℕ) → IsRun os a → IsRun os b → a.start ≤ b.start → b.start < a.end → b.end ≤ length os → b.end ≤ a.end
run_in_run os a b run_a run_b from within upto = by (cases_lt a.end b.end)
  where
    by : (a.end < b.end) ⊎ (b.end ≤ a.end) → b.end ≤ a.end
    by (inr less) = less
    by (inl more) =
        let j = a.end in
        let d : Place = record { space = 0; page = 0 } in
        let to_b = (run_b j d (omega (arith, more, upto))).0 (rw (le-leb b.start j (omega (arith, within)), lt-ltb j b.end more) refl) in
        let to_a = (run_a b.start d (omega (arith, within, more, upto))).0 (rw (le-leb a.start b.start from, lt-ltb b.start a.end within) refl) in
        let to = on os to_b.origins to_a.origins (to_b.origins + to_a.origins) (place_at os j d) (place_at os b.start d) (place_at os a.start d) refl to_b.leads to_a.leads in
        let in_a = (run_a j d (omega (arith, more, upto))).1 (record { origins = to_b.origins + to_a.origins; enough = omega arith; leads = to }) in
        absurd (omega (arith, ltb-true j a.end (and_parts _ _ in_a).1))

module _ (s : Shards) (os : Origins) where
  pub none_yet : AreGoneUpTo s os 0 []
  none_yet = record {
    rising = omega arith;
    whole = All-nil (IsRun os);
    gone = refl;
    held = λ j d less out. absurd (omega (arith, less));
  }

  -- some places more, which have entries
  pub held_further : (p q : ℕ) (runs : List (Range ℕ)) → AreGoneUpTo s os p runs → p ≤ q → q ≤ length os → list_all (λ o. has_entry s o.0) (slice_range os p q) ≡ true → AreGoneUpTo s os q runs
  held_further p q runs upto more within all = record {
    rising = rising_more 0 runs p q upto.rising more;
    whole = upto.whole;
    gone = upto.gone;
    held = λ j d less out. by j d less out (cases_lt j p);
  }
    where
      there : (j : ℕ) (d : Place) → p ≤ j → j < q → (b : Bool) → has_entry s (place_at os j d) ≡ b → has_entry s (place_at os j d) ≡ true
      there j d least less true is = is
      there j d least less false is = absurd (cc (all, range_fails (has_entry s) os p j q d least less within is))

      by : (j : ℕ) (d : Place) → j < q → (LiesInOne j runs → ⊥) → (j < p) ⊎ (p ≤ j) → has_entry s (place_at os j d) ≡ true
      by j d less out (inl before) = upto.held j d before out
      by j d less out (inr behind) = there j d behind less (has_entry s (place_at os j d)) refl

  -- one place more, which has an entry
  pub one_held : (i : ℕ) (runs : List (Range ℕ)) → AreGoneUpTo s os i runs → i < length os → ((d : Place) → has_entry s (place_at os i d) ≡ true) → AreGoneUpTo s os (i + 1) runs
  one_held i runs upto within is =
      held_further i (i + 1) runs upto (omega arith) (omega (arith, within))
      (all_slice (has_entry s) os i (i + 1 - i) (λ j d least less inside. let here : i ≡ j = omega (arith, least, less) in subst (λ k. has_entry s (place_at os k d) ≡ true) here (is d)))

  module _ (origins : OriginsHaveEntries s os) where
    -- what has an entry has origins with entries
    origins_have : (n : ℕ) (p q : Place) → after_origins n os p ≡ Some q → has_entry s p ≡ true → has_entry s q ≡ true
    origins_have zero p q is held = subst (λ x. has_entry s x ≡ true) (same_Some p q is) held
    origins_have (suc n) p q is held = by (origin_in os p) refl is (λ o leads there. origins_have n o q leads there)
      where
        by : (o : Option Place) → origin_in os p ≡ o → option_and_then (after_origins n os) o ≡ Some q → ((o : Place) → after_origins n os o ≡ Some q → has_entry s o ≡ true → has_entry s q ≡ true) → has_entry s q ≡ true
        by None none leads further = absurd (cc leads)
        by (Some o) some leads further = further o leads (origins p o some held)

    -- the run of one place more, which has no entry
    pub one_gone : (i : ℕ) (runs : List (Range ℕ)) (r : Range ℕ) → AreGoneUpTo s os i runs → r.start ≡ i → i < r.end → r.end ≤ length os → IsRun os r → ((d : Place) → has_entry s (place_at os i d) ≡ false) → AreGoneUpTo s os r.end (runs ++ r ∷ [])
    one_gone i runs r upto start some within is_run absent = record {
      rising = rising_push 0 runs r (subst (AreRising 0 runs) (sym start) upto.rising) (omega (arith, start, some));
      whole = All-push (IsRun os) runs r upto.whole is_run;
      gone = list_all-append _ runs (r ∷ []) ∙ and_from _ _ upto.gone (and_from _ _ none refl);
      held = λ j d less out. by j d less out (cases_lt j i);
    }
      where
        gone_there : (j : ℕ) (d : Place) → r.start ≤ j → j < r.end → j < length os → has_entry s (place_at os j d) ≡ false
        gone_there j d least less inside =
            let leads = (is_run j d inside).0 (rw (le-leb r.start j least, lt-ltb j r.end less) refl) in
            let first = ap (λ k. has_entry s (place_at os k d)) start ∙ absent d in
            false_from_ne_true _ (λ held. cc (first, origins_have leads.origins (place_at os j d) (place_at os r.start d) leads.leads held))

        none : list_all (λ o. not (has_entry s o.0)) (slice_range os r.start r.end) ≡ true
        none = all_slice (λ p. not (has_entry s p)) os r.start (r.end - r.start) (λ j d least less inside. ap not (gone_there j d least (omega (arith, less, start, some)) inside))

        by : (j : ℕ) (d : Place) → j < r.end → (LiesInOne j (runs ++ r ∷ []) → ⊥) → (j < i) ⊎ (i ≤ j) → has_entry s (place_at os j d) ≡ true
        by j d less out (inl before) = upto.held j d before (λ lies. out (lies_front j runs r lies))
        by j d less out (inr behind) = absurd (out (lies_last j runs r (omega (arith, start, behind)) less))

  -- the tree without all runs that are gone
  pub without_gone : (runs : List (Range ℕ)) → AreGoneUpTo s os (length os) runs → outside 0 runs os ≡ pruned s os
  without_gone runs upto =
      sym (all_gone (has_entry s) os 0 runs upto.rising upto.gone (all_outside (has_entry s) os 0 runs upto.rising (λ j d least less out. upto.held j d less out)))
