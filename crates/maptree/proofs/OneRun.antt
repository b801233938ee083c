-- The outermost runs of one place: its own run, or none.
use Rattle.std.proofs.Common.{Decides, ◌≡◌, ℕ, ◌<◌, ◌≤◌, true, false, ◌&&◌, List, [], ◌∷◌, length, get_or, Option, Some, None, nat_le, nat_lt, refl, sym, ap, ◌∙◌, subst, arith, ◌⊎◌, inl, inr, le-leb, leb-true, lt-ltb, ltb-true}
use Rattle.std.specs.List.{position, list_any}
use Rattle.std.specs.declared.ops.Range.{Range}
use Rattle.std.proofs.lemmas.Bool.{or_cases, and_parts}
use Rattle.std.proofs.lemmas.List.Elements.{All-nil, All-cons}
use Rattle.std.proofs.lemmas.List.Folds.{list_any_at}
use Rattle.space.specs.declared.place.Place.{Place}
use Rattle.space.specs.Place.{same_place}
use Rattle.space.proofs.Places.{same_is, same_self}
use Rattle.space.specs.declared.node.Node.{Node}
use Rattle.maptree.specs.Origins.{Origins, place_at, IsRun, LeadsTo, LeadsToOne, BeginsAtOne, LiesInOne, AreOuterRuns}
use Rattle.maptree.specs.Nodes.{is_forest, origins_of}
use Rattle.maptree.proofs.Found.{at_read, found_at, none_from_position}
use Rattle.maptree.proofs.Outermost.{AreSoFar, all_runs}
use Rattle.maptree.proofs.Positions.{length-links, place_at-links}
use Rattle.maptree.proofs.Runs.{place_of}

-- a range of positions is the run of a place
pub record IsRunOf (os : Origins) (p : Place) (run : Range ℕ) : Type 0 where
  pub whole : IsRun os run
  pub some : run.start < run.end
  pub within : run.end ≤ length os
  pub first : (d : Place) → place_at os run.start d ≡ p

-- that of the position where the place is found
pub run_found : (os : Origins) (p : Place) (i : ℕ) (run : Range ℕ) → position (λ o. same_place p o.0) os ≡ Some i → run.start ≡ i → run.end ≤ length os
    → ((j : ℕ) (d : Place) → j < length os → Decides (nat_le i j && nat_lt j run.end) (LeadsTo os 0 (place_at os j d) (place_at os i d))) → IsRunOf os p run
run_found os p i run found start within decides =
    let here = found_at os p i found in
    let whole : IsRun os run = subst (λ k. (j : ℕ) (d : Place) → j < length os → Decides (nat_le k j && nat_lt j run.end) (LeadsTo os 0 (place_at os j d) (place_at os k d))) (sym start) decides in
    let itself = (decides i p here.within).1 (record { origins = 0; enough = omega arith; leads = refl }) in
    let less = ltb-true i run.end (and_parts (nat_le i i) (nat_lt i run.end) itself).1 in
    record { whole = whole; some = omega (arith, start, less); within = within; first = λ d. ap (λ k. place_at os k d) start ∙ here.place d }

-- it is the outermost run of that place
module _ (os : Origins) (p : Place) (run : Range ℕ) (is : IsRunOf os p run) where
  pub one_run : AreOuterRuns os (p ∷ []) (run ∷ [])
  one_run = record {
    rising = (omega arith, is.some, is.within);
    whole = All-cons (IsRun os) run [] is.whole (All-nil (IsRun os));
    named = All-cons (BeginsAtOne os (p ∷ [])) run [] (λ d. rw (is.first d, same_self p) refl) (All-nil (BeginsAtOne os (p ∷ [])));
    covers = λ j d within_j. (there j d within_j, back j d within_j);
  }
    where
      there : (j : ℕ) (d : Place) → j < length os → LiesInOne j (run ∷ []) → LeadsToOne os (p ∷ []) (place_at os j d)
      there j d within_j (inl in_run) =
          let bounds : (nat_le run.start j && nat_lt j run.end) ≡ true = rw (le-leb run.start j in_run.0, lt-ltb j run.end in_run.1) refl in
          record { named = p; among = rw (same_self p) refl; leads = subst (LeadsTo os 0 (place_at os j d)) (is.first d) ((is.whole j d within_j).0 bounds) }
      there j d within_j (inr none) = absurd none

      back : (j : ℕ) (d : Place) → j < length os → LeadsToOne os (p ∷ []) (place_at os j d) → LiesInOne j (run ∷ [])
      back j d within_j to = by (or_cases (same_place to.named p) false to.among)
        where
          by : (same_place to.named p ≡ true) ⊎ (false ≡ true) → LiesInOne j (run ∷ [])
          by (inl same) =
              let leads : LeadsTo os 0 (place_at os j d) (place_at os run.start d) = subst (LeadsTo os 0 (place_at os j d)) (same_is to.named p same ∙ sym (is.first d)) to.leads in
              let bounds = and_parts (nat_le run.start j) (nat_lt j run.end) ((is.whole j d within_j).1 leads) in
              inl (leb-true run.start j bounds.0, ltb-true j run.end bounds.1)
          by (inr none) = absurd (cc none)

-- ---- a place that is not in the tree

-- it has no run
pub no_runs : (ns : List Node) → is_forest ns ≡ true → (p : Place) → position (λ o. same_place p o.0) (origins_of ns) ≡ None → AreOuterRuns (origins_of ns) (p ∷ []) []
no_runs ns forest p none = all_runs ns (p ∷ []) [] (length ns) so_far forest (omega arith)
  where
    there : (k : ℕ) (d : Place) → k < length ns → list_any (same_place (place_of ns k d)) (p ∷ []) ≡ true → ⊥
    there k d less named = by (or_cases (same_place (place_of ns k d) p) false named)
      where
        by : (same_place (place_of ns k d) p ≡ true) ⊎ (false ≡ true) → ⊥
        by (inl same) =
            let os = origins_of ns in
            let within : k < length os = omega (arith, less, length-links [] ns) in
            let here : (get_or os k (d, None)).0 ≡ p = sym (at_read os k d) ∙ place_at-links [] ns k d ∙ same_is (place_of ns k d) p same in
            let found = list_any_at (λ (o : Place × Option Place). same_place p o.0) os k (d, None) within (ap (same_place p) here ∙ same_self p) in
            cc (found, none_from_position (λ o. same_place p o.0) os none)
        by (inr other) = cc other

    so_far : AreSoFar ns (p ∷ []) (length ns) []
    so_far = record {
      upto = omega arith;
      rising = omega arith;
      whole = All-nil (IsRun (origins_of ns));
      named = All-nil (BeginsAtOne (origins_of ns) (p ∷ []));
      has = λ k d less named. absurd (there k d less named);
    }
