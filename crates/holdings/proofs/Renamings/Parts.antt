-- Places that are replaced in a part of the trees, and in all of them, part by part.
use Rattle.std.proofs.Common.{◌≡◌, ℕ, ◌+◌, ◌-◌, ◌<◌, ◌≤◌, ◌==◌, true, false, Bool, ◌||◌, nat_lt, List, [], ◌∷◌, ◌++◌, length, take, get_or, Option, Some, None, option_map, unwrap_or, refl, sym, ap, ◌∙◌, subst, arith, ◌⊎◌, inl, inr, if◌then◌else◌, append_assoc, MutBor, Result, Ok, Err}
use Rattle.std.specs.Prelude.{slice_set}
use Rattle.std.specs.List.{All}
use Rattle.std.specs.Result.{OnOk}
use Rattle.std.proofs.lemmas.Bool.{or_parts, eq-eqb, eqb-true, ne_eqb, ltb-true, ltb-false, cases_eq}
use Rattle.std.proofs.lemmas.Option.{same_Some}
use Rattle.std.proofs.lemmas.List.{length-append}
use Rattle.std.proofs.lemmas.List.Folds.{list_any_more}
use Rattle.space.specs.declared.place.Place.{Place}
use Rattle.crew.specs.Changes.{IsChanged, at_once, in_two}
use Rattle.maptree.specs.Origins.{Shape, Origins}
use Rattle.maptree.specs.PlaceMaps.{IsApart}
use Rattle.maptree.specs.Renamings.{replaced_by, all_renamed, StayApart}
use Rattle.holdings.specs.declared.link.Link.{Link}
use Rattle.holdings.specs.Inner.Held.{links_in}
use Rattle.holdings.specs.Inner.Links.{IsTreeSet, is_between, counted_from, links_between}
use Rattle.holdings.specs.Inner.Renamings.{is_of_frame, AreRenamed, CanBeRenamed}
use Rattle.holdings.proofs.Contents.Holders.{links_read}
use Rattle.holdings.proofs.Links.NewMappings.{tree_set}
use Rattle.holdings.proofs.Links.LinkedTrees.{some_or}
use Rattle.holdings.proofs.Links.Parts.{same_number, between_true, between_from, links_front, links_behind, links_past, all_between}
use Rattle.holdings.proofs.Renamings.MovedPages.{stood_replaced}

-- ---- places that are replaced again

module _ (new : Place → Option Place) (last : IsApart new) where
  replaced_twice : (p : Place) → replaced_by new (replaced_by new p) ≡ replaced_by new p
  replaced_twice p = by (new p) refl
    where
      by : (o : Option Place) → new p ≡ o → replaced_by new (unwrap_or o p) ≡ unwrap_or o p
      by None is = ap (λ o. unwrap_or o p) is
      by (Some q) is = ap (λ o. unwrap_or o q) (last p q is)

  renamed_twice : (os : Origins) → all_renamed new (all_renamed new os) ≡ all_renamed new os
  renamed_twice [] = refl
  renamed_twice (o ∷ os) = λ i. (replaced_twice o.0 i, by o.1 i) ∷ renamed_twice os i
    where
      by : (o : Option Place) → option_map (replaced_by new) (option_map (replaced_by new) o) ≡ option_map (replaced_by new) o
      by None = refl
      by (Some p) = ap Some (replaced_twice p)

  apart_again : (os : Origins) → StayApart new (all_renamed new os)
  apart_again os p q there_p there_q one =
      let a = stood_replaced new os p there_p in
      let b = stood_replaced new os q there_q in
      sym (stays a.0 p a.2) ∙ one ∙ stays b.0 q b.2
    where
      stays : (x p : Place) → replaced_by new x ≡ p → replaced_by new p ≡ p
      stays x p is = ap (replaced_by new) (sym is) ∙ replaced_twice x ∙ is

-- ---- tree by tree

-- places were replaced in those trees of a part of which these are, and this was the last frame
pub record AreRenaming (new : Place → Option Place) (start : ℕ) (first : List Shape) (ls : List Link) (trees : List Shape) (last : Option ℕ) : Type 0 where
  pub count : length trees ≡ length first
  pub there : (f : ℕ) → f < length first → is_of_frame ls (start + f) ≡ true → links_in trees f ≡ all_renamed new (links_in first f)
  pub elsewhere : (f : ℕ) → f < length first → is_of_frame ls (start + f) ≡ false → links_in trees f ≡ links_in first f
  pub passed : (f : ℕ) → last ≡ Some f → is_of_frame ls f ≡ true

pub none_renamed : (new : Place → Option Place) (start : ℕ) (first : List Shape) → AreRenaming new start first [] first None
none_renamed new start first = record { count = refl; there = λ f less is. absurd (cc is); elsewhere = λ f less none. refl; passed = λ f is. absurd (cc is) }

module _ (new : Place → Option Place) (start : ℕ) (first : List Shape) (can : CanBeRenamed new first) (ls : List Link) (i : ℕ) (d : Link) (within : i < length ls) (trees : List Shape) (last : Option ℕ)
    (so_far : AreRenaming new start first (take i ls) trees last) where
  abbrev l : Link
  l = get_or ls i d

  of_more : (f : ℕ) → is_of_frame (take (i + 1) ls) f ≡ (is_of_frame (take i ls) f || (l.frame == f))
  of_more f = list_any_more (λ (m : Link). m.frame == f) ls i d within

  -- the tree of a frame is as it was, or its places are replaced
  either : (f : ℕ) → f < length first → (links_in trees f ≡ all_renamed new (links_in first f)) ⊎ (links_in trees f ≡ links_in first f)
  either f less = by (is_of_frame (take i ls) (start + f)) refl
    where
      by : (b : Bool) → is_of_frame (take i ls) (start + f) ≡ b → (links_in trees f ≡ all_renamed new (links_in first f)) ⊎ (links_in trees f ≡ links_in first f)
      by true is = inl (so_far.there f less is)
      by false is = inr (so_far.elsewhere f less is)

  -- replacing them gives the same
  replaced_there : (f : ℕ) → f < length first → all_renamed new (links_in trees f) ≡ all_renamed new (links_in first f)
  replaced_there f less = by (either f less)
    where
      by : (links_in trees f ≡ all_renamed new (links_in first f)) ⊎ (links_in trees f ≡ links_in first f) → all_renamed new (links_in trees f) ≡ all_renamed new (links_in first f)
      by (inl is) = ap (all_renamed new) is ∙ renamed_twice new can.last (links_in first f)
      by (inr is) = ap (all_renamed new) is

  apart_now : (f : ℕ) → f < length first → StayApart new (links_in trees f)
  apart_now f less = by (either f less)
    where
      by : (links_in trees f ≡ all_renamed new (links_in first f)) ⊎ (links_in trees f ≡ links_in first f) → StayApart new (links_in trees f)
      by (inl is) = subst (StayApart new) (sym is) (apart_again new can.last (links_in first f))
      by (inr is) = subst (StayApart new) (sym is) (can.apart f)

  -- the tree of the next is in another part, or was passed
  pub step_passed : ((f : ℕ) → f < length first → l.frame ≡ start + f → last ≡ Some l.frame) → AreRenaming new start first (take (i + 1) ls) trees last
  step_passed passed = record {
    count = so_far.count;
    there = λ f less some. so_far.there f less (was f less some);
    elsewhere = λ f less none. so_far.elsewhere f less (or_parts (is_of_frame (take i ls) (start + f)) (l.frame == start + f) (sym (of_more (start + f)) ∙ none)).0;
    passed = λ f is_f. of_more f ∙ ap (λ b. b || (l.frame == f)) (so_far.passed f is_f);
  }
    where
      was : (f : ℕ) → f < length first → is_of_frame (take (i + 1) ls) (start + f) ≡ true → is_of_frame (take i ls) (start + f) ≡ true
      was f less some = by (is_of_frame (take i ls) (start + f)) refl (sym (of_more (start + f)) ∙ some)
        where
          by : (b : Bool) → is_of_frame (take i ls) (start + f) ≡ b → (b || (l.frame == start + f)) ≡ true → is_of_frame (take i ls) (start + f) ≡ true
          by true there _ = there
          by false none same =
              let at = eqb-true l.frame (start + f) same in
              absurd (cc (none, ap (is_of_frame (take i ls)) (sym at), so_far.passed l.frame (passed f less at)))

  module _ (k : ℕ) (less : k < length first) (at : l.frame ≡ start + k) (t : Shape) (read : t ≡ get_or trees k t) where
    links_now : links_in trees k ≡ (get_or trees k t).links
    links_now = links_read trees k t (subst (λ n. k < n) (sym so_far.count) less) read ∙ ap (λ (x : Shape). x.links) read

    pub apart_there : StayApart new (get_or trees k t).links
    apart_there = subst (StayApart new) links_now (apart_now k less)

    -- places are replaced in the tree of its frame
    pub step_renamed : (next : Shape) → next.links ≡ all_renamed new (get_or trees k t).links → (now : Option ℕ) → now ≡ Some l.frame → AreRenaming new start first (take (i + 1) ls) (slice_set trees k next) now
    step_renamed next renamed now now_is =
        let set = tree_set trees k next (subst (λ n. k < n) (sym so_far.count) less) in
        record {
          count = set.count ∙ so_far.count;
          there = λ f within_f some. there f within_f some set (cases_eq f k);
          elsewhere = λ f within_f none. elsewhere f within_f set (or_parts (is_of_frame (take i ls) (start + f)) (l.frame == start + f) (sym (of_more (start + f)) ∙ none));
          passed = λ f is_f. of_more f ∙ (let same : l.frame ≡ f = same_Some l.frame f (sym now_is ∙ is_f) in some_or (is_of_frame (take i ls) f) (l.frame == f) (eq-eqb l.frame f same));
        }
      where
        there : (f : ℕ) → f < length first → is_of_frame (take (i + 1) ls) (start + f) ≡ true → IsTreeSet trees (slice_set trees k next) k next.links → (f ≡ k) ⊎ (f ≡ k → ⊥) → links_in (slice_set trees k next) f ≡ all_renamed new (links_in first f)
        there f within_f some set (inl same) =
            subst (λ g. links_in (slice_set trees k next) g ≡ all_renamed new (links_in first g)) (sym same) (set.there ∙ renamed ∙ ap (all_renamed new) (sym links_now) ∙ replaced_there k less)
        there f within_f some set (inr differ) =
            let other : (l.frame == start + f) ≡ false = ne_eqb l.frame (start + f) (λ is. differ (omega (arith, is, at))) in
            set.elsewhere f differ ∙ so_far.there f within_f (by (is_of_frame (take i ls) (start + f)) (ap (λ b. is_of_frame (take i ls) (start + f) || b) (sym other) ∙ sym (of_more (start + f)) ∙ some))
          where
            by : (b : Bool) → (b || false) ≡ true → b ≡ true
            by true is = refl
            by false is = is

        elsewhere : (f : ℕ) → f < length first → IsTreeSet trees (slice_set trees k next) k next.links → (is_of_frame (take i ls) (start + f) ≡ false) × ((l.frame == start + f) ≡ false) → links_in (slice_set trees k next) f ≡ links_in first f
        elsewhere f within_f set parts = set.elsewhere f (λ same. cc (parts.1, eq-eqb l.frame (start + f) (omega (arith, at, same)))) ∙ so_far.elsewhere f within_f parts.0

-- ---- the frames of links of a part

module _ (start count : ℕ) where
  of_between : (ls : List Link) (f : ℕ) → f < count → is_of_frame (links_between start count ls) f ≡ is_of_frame ls (start + f)
  of_between [] f less = refl
  of_between (l ∷ ls) f less = by (is_between start count l) refl (of_between ls f less)
    where
      by : (b : Bool) → is_between start count l ≡ b → is_of_frame (links_between start count ls) f ≡ is_of_frame ls (start + f)
          → is_of_frame (if b then counted_from start l ∷ links_between start count ls else links_between start count ls) f ≡ ((l.frame == start + f) || is_of_frame ls (start + f))
      by true is rest = λ i. same_number l.frame start f (between_true start count l is).0 i || rest i
      by false is rest =
          let apart : (l.frame == start + f) ≡ false = ne_eqb l.frame (start + f) (λ same. cc (is, between_from start count l (omega (arith, same)) (omega (arith, same, less)))) in
          rest ∙ ap (λ b. b || is_of_frame ls (start + f)) (sym apart)

  none_of_past : (ls : List Link) (f : ℕ) → count ≤ f → is_of_frame (links_between start count ls) f ≡ false
  none_of_past [] f past = refl
  none_of_past (l ∷ ls) f past = by (is_between start count l) refl (none_of_past ls f past)
    where
      by : (b : Bool) → is_between start count l ≡ b → is_of_frame (links_between start count ls) f ≡ false → is_of_frame (if b then counted_from start l ∷ links_between start count ls else links_between start count ls) f ≡ false
      by true is rest =
          let in' = between_true start count l is in
          let apart : (l.frame - start == f) ≡ false = ne_eqb (l.frame - start) f (λ same. absurd (omega (arith, same, in'.0, in'.1, past))) in
          ap (λ b. b || is_of_frame (links_between start count ls) f) apart ∙ rest
      by false is rest = rest

-- all links are passed
pub part_renamed : (new : Place → Option Place) (start : ℕ) (first : List Shape) (ls : List Link) (trees : List Shape) (last : Option ℕ) → AreRenaming new start first ls trees last → AreRenamed new (links_between start (length first) ls) first trees
part_renamed new start first ls trees last are = record {
  count = are.count;
  there = λ f some. there f some (nat_lt f (length first)) refl;
  elsewhere = λ f none. elsewhere f none (nat_lt f (length first)) refl;
}
  where
    there : (f : ℕ) → is_of_frame (links_between start (length first) ls) f ≡ true → (b : Bool) → nat_lt f (length first) ≡ b → links_in trees f ≡ all_renamed new (links_in first f)
    there f some true is = let less = ltb-true f (length first) is in are.there f less (sym (of_between start (length first) ls f less) ∙ some)
    there f some false is = absurd (cc (some, none_of_past start (length first) ls f (ltb-false f (length first) is)))

    elsewhere : (f : ℕ) → is_of_frame (links_between start (length first) ls) f ≡ false → (b : Bool) → nat_lt f (length first) ≡ b → links_in trees f ≡ links_in first f
    elsewhere f none true is = let less = ltb-true f (length first) is in are.elsewhere f less (sym (of_between start (length first) ls f less) ∙ none)
    elsewhere f none false is = let past = ltb-false f (length first) is in links_past trees f (omega (arith, past, are.count)) ∙ sym (links_past first f past)

-- ---- parts of trees

-- places can be replaced in a part
pub part_can : (new : Place → Option Place) (trees front behind part : List Shape) → front ++ part ++ behind ≡ trees → CanBeRenamed new trees → CanBeRenamed new part
part_can new trees front behind part are can = record { apart = λ f. apart f (nat_lt f (length part)) refl; last = can.last }
  where
    same : trees ≡ front ++ (part ++ behind)
    same = sym are ∙ append_assoc front part behind

    apart : (f : ℕ) → (b : Bool) → nat_lt f (length part) ≡ b → StayApart new (links_in part f)
    apart f true is = subst (StayApart new) (ap (λ xs. links_in xs (length front + f)) same ∙ links_behind front (part ++ behind) f ∙ links_front part behind f (ltb-true f (length part) is)) (can.apart (length front + f))
    apart f false is = subst (StayApart new) (sym (links_past part f (ltb-false f (length part) is))) (λ p q there_p there_q one. absurd (cc there_p))

module _ (new : Place → Option Place) (start : ℕ) (ls : List Link) (front front' behind behind' : List Shape) (first : AreRenamed new (links_between start (length front) ls) front front')
    (second : AreRenamed new (links_between (start + length front) (length behind) ls) behind behind') where
  abbrev all : ℕ
  all = length (front ++ behind)

  lengths : all ≡ length front + length behind
  lengths = length-append front behind

  at_front : (f : ℕ) → f < length front → links_in (front' ++ behind') f ≡ links_in front' f
  at_front f less = links_front front' behind' f (omega (arith, less, first.count))

  at_behind : (f : ℕ) → length front ≤ f → links_in (front' ++ behind') f ≡ links_in behind' (f - length front)
  at_behind f low =
      let at : f ≡ length front' + (f - length front) = omega (arith, low, first.count) in
      ap (links_in (front' ++ behind')) at ∙ links_behind front' behind' (f - length front)

  was_behind : (f : ℕ) → length front ≤ f → links_in (front ++ behind) f ≡ links_in behind (f - length front)
  was_behind f low =
      let at : f ≡ length front + (f - length front) = omega (arith, low) in
      ap (links_in (front ++ behind)) at ∙ links_behind front behind (f - length front)

  of_front : (f : ℕ) → f < length front → is_of_frame (links_between start all ls) f ≡ is_of_frame (links_between start (length front) ls) f
  of_front f less = of_between start all ls f (omega (arith, less, lengths)) ∙ sym (of_between start (length front) ls f less)

  of_behind : (f : ℕ) → length front ≤ f → f < all → is_of_frame (links_between start all ls) f ≡ is_of_frame (links_between (start + length front) (length behind) ls) (f - length front)
  of_behind f low high =
      let at : start + f ≡ start + length front + (f - length front) = omega (arith, low) in
      of_between start all ls f high ∙ ap (is_of_frame ls) at ∙ sym (of_between (start + length front) (length behind) ls (f - length front) (omega (arith, low, high, lengths)))

  of_past : (f : ℕ) → all ≤ f → is_of_frame (links_between (start + length front) (length behind) ls) (f - length front) ≡ false
  of_past f past = none_of_past (start + length front) (length behind) ls (f - length front) (omega (arith, past, lengths))

  both_renamed : AreRenamed new (links_between start all ls) (front ++ behind) (front' ++ behind')
  both_renamed = record {
    count = length-append front' behind' ∙ omega (arith, first.count, second.count, lengths);
    there = λ f some. there f some (nat_lt f (length front)) refl (nat_lt f all) refl;
    elsewhere = λ f none. elsewhere f none (nat_lt f (length front)) refl (nat_lt f all) refl;
  }
    where
      there : (f : ℕ) → is_of_frame (links_between start all ls) f ≡ true → (a : Bool) → nat_lt f (length front) ≡ a → (b : Bool) → nat_lt f all ≡ b → links_in (front' ++ behind') f ≡ all_renamed new (links_in (front ++ behind) f)
      there f some true is b is_b =
          let less = ltb-true f (length front) is in
          at_front f less ∙ first.there f (sym (of_front f less) ∙ some) ∙ ap (all_renamed new) (sym (links_front front behind f less))
      there f some false is true is_b =
          let low = ltb-false f (length front) is in
          at_behind f low ∙ second.there (f - length front) (sym (of_behind f low (ltb-true f all is_b)) ∙ some) ∙ ap (all_renamed new) (sym (was_behind f low))
      there f some false is false is_b = absurd (cc (some, none_of_past start all ls f (ltb-false f all is_b)))

      elsewhere : (f : ℕ) → is_of_frame (links_between start all ls) f ≡ false → (a : Bool) → nat_lt f (length front) ≡ a → (b : Bool) → nat_lt f all ≡ b → links_in (front' ++ behind') f ≡ links_in (front ++ behind) f
      elsewhere f none true is b is_b =
          let less = ltb-true f (length front) is in
          at_front f less ∙ first.elsewhere f (sym (of_front f less) ∙ none) ∙ sym (links_front front behind f less)
      elsewhere f none false is true is_b =
          let low = ltb-false f (length front) is in
          at_behind f low ∙ second.elsewhere (f - length front) (sym (of_behind f low (ltb-true f all is_b)) ∙ none) ∙ sym (was_behind f low)
      elsewhere f none false is false is_b =
          let low : length front ≤ f = ltb-false f (length front) is in
          at_behind f low ∙ second.elsewhere (f - length front) (of_past f (ltb-false f all is_b)) ∙ sym (was_behind f low)

-- ---- by parts

module _ (new : Place → Option Place) (ls : List Link) {E : Type 0} (post : ℕ → MutBor (List Shape) → Result (Unit {0}) E → MutBor (List Shape) → Type 0)
    (renamed : (start : ℕ) (before after : MutBor (List Shape)) → post start before (Ok tt) after → AreRenamed new (links_between start (length before.now) ls) before.now after.now) where
  by_parts : (start : ℕ) (xs ys : List Shape) → IsChanged post start xs ys → AreRenamed new (links_between start (length xs) ls) xs ys
  by_parts _ _ _ (at_once start before after call) = renamed start before after call
  by_parts _ _ _ (in_two start front front' behind behind' first second) =
      both_renamed new start ls front front' behind behind' (by_parts start front front' first) (by_parts (start + length front) behind behind' second)

  pub renamed_by_parts : (trees now : List Shape) (result : Result (Unit {0}) E) → All (λ l. l.frame < length trees) ls → OnOk result (IsChanged post 0 trees now) → OnOk result (AreRenamed new ls trees now)
  renamed_by_parts trees now (Ok tt) frames changed = subst (λ ms. AreRenamed new ms trees now) (all_between ls (length trees) frames) (by_parts 0 trees now changed)
  renamed_by_parts trees now (Err e) frames changed = tt
