-- To rename places, and origins with them, so that no two held places become one keeps holdings lawful.
use Rattle.std.proofs.Common.{◌≡◌, ℕ, zero, suc, ◌+◌, ◌==◌, true, false, Bool, cond, ◌||◌, [], ◌∷◌, List, length, filter, Option, Some, None, option_map, unwrap_or, refl, sym, ap, ◌∙◌, subst, arith, ◌⊎◌, inl, inr, if◌then◌else◌}
use Rattle.std.specs.Option.{option_and_then}
use Rattle.std.specs.Ordering.{is_eq}
use Rattle.std.specs.declared.cmp.Ordering.{Ordering}
use Rattle.std.specs.declared.cmp.Ordering.TheVariants.{Less, Equal, Greater}
use Rattle.std.specs.FinMap.Entries.{put, by_order, below_all, is_sorted}
use Rattle.std.proofs.lemmas.Bool.{and_parts}
use Rattle.fpage.specs.Rights.{is_empty, is_within}
use Rattle.space.specs.declared.place.Place.{Place}
use Rattle.space.specs.Place.{place_cmp, same_place}
use Rattle.model.specs.Definitions.Holdings.{Held, Holdings, at, origin_at}
use Rattle.model.specs.Definitions.Lawful.{ends}
use Rattle.model.specs.Definitions.Items.{Pair, sources_of}
use Rattle.model.specs.Definitions.Grant.{target_of, moved_to, moved, renamed}
use Rattle.model.specs.Laws.SendLaws.{In, mappings_of}
use Rattle.space.proofs.Places.{same_is, same_or_apart}
use Rattle.model.proofs.Lookups.{Sorted, below_absent, later, first_held, held_cases}
use Rattle.model.proofs.LawfulParts.{IsLawful, IsOrigin}
use Rattle.model.proofs.ChainLengths.{OriginsHeld, IsHeldIfAny, ends_within_length}
use Rattle.model.proofs.Puts.{apart_places, put_here, put_elsewhere, sorted_put}

-- a source moves to the target of its first pair, and any other place stays
pub moved_cases : (es : List Pair) (p : Place) → ((e : Pair) × In e es × (e.0 ≡ p) × (moved_to es p ≡ e.1)) ⊎ ((sources_of es p ≡ false) × (moved_to es p ≡ p))
moved_cases [] p = inr (refl, refl)
moved_cases (d ∷ es) p = by (same_place d.0 p) refl (moved_cases es p)
  where
    by : (b : Bool) → same_place d.0 p ≡ b → ((e : Pair) × In e es × (e.0 ≡ p) × (moved_to es p ≡ e.1)) ⊎ ((sources_of es p ≡ false) × (moved_to es p ≡ p))
        → ((e : Pair) × In e (d ∷ es) × (e.0 ≡ p) × (unwrap_or (if b then Some d.1 else target_of es p) p ≡ e.1)) ⊎ (((b || sources_of es p) ≡ false) × (unwrap_or (if b then Some d.1 else target_of es p) p ≡ p))
    by true is rest = inl (d, inl refl, same_is d.0 p is, refl)
    by false is (inl (e, k, same, to)) = inl (e, inr k, same, to)
    by false is (inr stays) = inr stays

-- no two held places become one
pub record MovesApart (es : List Pair) (h : Holdings) : Type 0 where
  pub one : (p q : Place) (m k : Held) → at h p ≡ Some m → at h q ≡ Some k → moved_to es p ≡ moved_to es q → p ≡ q

-- what is held after the move was held before, at the place that moved there
pub record WasMoved (es : List Pair) (h : Holdings) (q : Place) (k : Held) : Type 0 where
  pub place : Place
  pub before : Held
  pub held : at h place ≡ Some before
  pub to : moved_to es place ≡ q
  pub is : k ≡ moved es place before

module _ (es : List Pair) where
  tail_sorted : (e : Place × Held) (h : Holdings) → Sorted (e ∷ h) → Sorted h
  tail_sorted e h sorted = (and_parts (below_all place_cmp e.0 h) (is_sorted place_cmp h) sorted).1

  tail_apart : (e : Place × Held) (h : Holdings) → Sorted (e ∷ h) → MovesApart es (e ∷ h) → MovesApart es h
  tail_apart e h sorted a = record { one = λ p q m k held_p held_q to. a.one p q m k (later e h p m sorted held_p) (later e h q k sorted held_q) to }

  first_absent : (e : Place × Held) (h : Holdings) → Sorted (e ∷ h) → at h e.0 ≡ None
  first_absent e h sorted = below_absent e.0 h (and_parts (below_all place_cmp e.0 h) (is_sorted place_cmp h) sorted).0

  -- a move keeps the order
  pub renamed_sorted : (h : Holdings) → Sorted (renamed es h)
  renamed_sorted [] = refl
  renamed_sorted (e ∷ h) = sorted_put (moved_to es e.0) (moved es e.0 e.1) (renamed es h) (renamed_sorted h)

  -- what is held after a move was held before
  pub renamed_was : (h : Holdings) (q : Place) (k : Held) → Sorted h → at (renamed es h) q ≡ Some k → WasMoved es h q k
  renamed_was [] q k sorted held = absurd (cc held)
  renamed_was (e ∷ h) q k sorted held = by (same_or_apart q (moved_to es e.0)) (λ rest. renamed_was h q k (tail_sorted e h sorted) rest)
    where
      by : (q ≡ moved_to es e.0) ⊎ (same_place q (moved_to es e.0) ≡ false) → (at (renamed es h) q ≡ Some k → WasMoved es h q k) → WasMoved es (e ∷ h) q k
      by (inl same) rest =
          record { place = e.0; before = e.1; held = first_held e h; to = sym same; is = cc (held, ap (at (renamed es (e ∷ h))) same, put_here (moved_to es e.0) (moved es e.0 e.1) (renamed es h)) }
      by (inr apart) rest =
          let w = rest (sym (put_elsewhere q (moved_to es e.0) (moved es e.0 e.1) (renamed es h) apart) ∙ held) in
          record { place = w.place; before = w.before; held = later e h w.place w.before sorted w.held; to = w.to; is = w.is }

  -- what is held moves with its place
  pub renamed_at : (h : Holdings) (p : Place) (m : Held) → Sorted h → MovesApart es h → at h p ≡ Some m → at (renamed es h) (moved_to es p) ≡ Some (moved es p m)
  renamed_at [] p m sorted a held = absurd (cc held)
  renamed_at (e ∷ h) p m sorted a held = by (held_cases e h p m held) (renamed_at h p m (tail_sorted e h sorted) (tail_apart e h sorted a))
    where
      by : ((p ≡ e.0) × (m ≡ e.1)) ⊎ (at h p ≡ Some m) → (at h p ≡ Some m → at (renamed es h) (moved_to es p) ≡ Some (moved es p m)) → at (renamed es (e ∷ h)) (moved_to es p) ≡ Some (moved es p m)
      by (inl (same, is)) rest =
          ap (λ x. at (renamed es (e ∷ h)) (moved_to es x)) same ∙ put_here (moved_to es e.0) (moved es e.0 e.1) (renamed es h) ∙ sym (λ i. Some (moved es (same i) (is i)))
      by (inr k) rest =
          put_elsewhere (moved_to es p) (moved_to es e.0) (moved es e.0 e.1) (renamed es h)
          (apart_places (moved_to es p) (moved_to es e.0) (λ to. cc (k, first_absent e h sorted, ap (at h) (a.one p e.0 m e.1 held (first_held e h) to))))
          ∙ rest k

  module _ (h : Holdings) (l : IsLawful h) (a : MovesApart es h) where
    -- an origin before the move
    origin_before : (p : Place) (m : Held) (o : Place) → at h p ≡ Some m → option_map (moved_to es) m.origin ≡ Some o → (b : Place) × (m.origin ≡ Some b) × (moved_to es b ≡ o)
    origin_before p m o held from = by m.origin refl from
      where
        by : (x : Option Place) → m.origin ≡ x → option_map (moved_to es) x ≡ Some o → (b : Place) × (m.origin ≡ Some b) × (moved_to es b ≡ o)
        by None is from = absurd (cc from)
        by (Some b) is from = (b, is, cc from)

    no_origin : (x : Option Place) → option_map (moved_to es) x ≡ None → x ≡ None
    no_origin None none = refl
    no_origin (Some b) none = absurd (cc none)

    renamed_origin : (q o : Place) (k : Held) → at (renamed es h) q ≡ Some k → k.origin ≡ Some o → IsOrigin (renamed es h) o k
    renamed_origin q o k held from =
        let w = renamed_was h q k l.sorted held in
        let b = origin_before w.place w.before o w.held (sym (ap (λ x. x.origin) w.is) ∙ from) in
        let origin = l.origin w.place b.0 w.before w.held b.1 in
        record {
          held = moved es b.0 origin.held;
          is = subst (λ x. at (renamed es h) x ≡ Some (moved es b.0 origin.held)) b.2 (renamed_at h b.0 origin.held l.sorted a origin.is);
          frame = ap (λ x. x.frame) w.is ∙ origin.frame;
          within = subst (λ r. is_within r origin.held.rights ≡ true) (sym (ap (λ x. x.rights) w.is)) origin.within;
        }

    origins_held : OriginsHeld (renamed es h)
    origins_held q o k held from = let origin = renamed_origin q o k held from in (origin.held, origin.is)

    -- chains move as a whole
    moved_ends : (n : ℕ) (o : Option Place) → IsHeldIfAny h o → ends n h o ≡ true → ends n (renamed es h) (option_map (moved_to es) o) ≡ true
    moved_ends zero None held end = refl
    moved_ends zero (Some q) held end = absurd (cc end)
    moved_ends (suc n) None held end = refl
    moved_ends (suc n) (Some q) held end =
        let m = held q refl in
        let here : origin_at h q ≡ m.0.origin = ap (option_and_then (λ m. m.origin)) m.1 in
        let there : origin_at (renamed es h) (moved_to es q) ≡ option_map (moved_to es) (origin_at h q) =
        ap (option_and_then (λ m. m.origin)) (renamed_at h q m.0 l.sorted a m.1) ∙ ap (option_map (moved_to es)) (sym here) in
        let rest = moved_ends n (origin_at h q) (λ o is. let origin = l.origin q o m.0 m.1 (sym here ∙ is) in (origin.held, origin.is)) end in
        subst (λ o. ends n (renamed es h) o ≡ true) (sym there) rest

    renamed_ending : (q : Place) (k : Held) → at (renamed es h) q ≡ Some k → ends (length (renamed es h)) (renamed es h) k.origin ≡ true
    renamed_ending q k held =
        let w = renamed_was h q k l.sorted held in
        let end = moved_ends (length h) w.before.origin (λ o from. let origin = l.origin w.place o w.before w.held from in (origin.held, origin.is)) (l.ending w.place w.before w.held) in
        ends_within_length (renamed es h) origins_held (length h) k.origin (λ o from. origins_held q o k held from)
        (subst (λ o. ends (length h) (renamed es h) o ≡ true) (sym (ap (λ x. x.origin) w.is)) end)

    -- a move by which no two held places become one keeps holdings lawful
    pub lawful_renamed : IsLawful (renamed es h)
    lawful_renamed = record {
      sorted = renamed_sorted h;
      some = λ q k held. let w = renamed_was h q k l.sorted held in subst (λ r. is_empty r ≡ false) (sym (ap (λ x. x.rights) w.is)) (l.some w.place w.before w.held);
      origin = renamed_origin;
      ending = renamed_ending;
      root = λ p q m k held_p held_q none_p none_q frame.
          let v = renamed_was h p m l.sorted held_p in
          let w = renamed_was h q k l.sorted held_q in
          let same = l.root v.place w.place v.before w.before v.held w.held (no_origin v.before.origin (sym (ap (λ x. x.origin) v.is) ∙ none_p)) (no_origin w.before.origin (sym (ap (λ x. x.origin) w.is) ∙ none_q))
          (sym (ap (λ x. x.frame) w.is) ∙ frame ∙ ap (λ x. x.frame) v.is) in
          sym w.to ∙ ap (moved_to es) same ∙ v.to;
    }

-- ---- how many mappings a frame has

-- one more where the test passes
length_kept : (b : Bool) (e : Place × Held) (h : Holdings) → length (cond b (e ∷ h) h) ≡ cond b 1 0 + length h
length_kept true e h = omega arith
length_kept false e h = omega arith

module _ (frame : ℕ) where
  abbrev pub one_mapping : Held → ℕ
  one_mapping k = cond (k.frame == frame) 1 0

  pub first_mapping : (e : Place × Held) (h : Holdings) → mappings_of frame (e ∷ h) ≡ one_mapping e.1 + mappings_of frame h
  first_mapping e h = length_kept (e.1.frame == frame) e (filter (λ e. e.1.frame == frame) h)

  -- a mapping that is put at a place that holds nothing is one more of its frame
  put_mappings : (q : Place) (k : Held) (h : Holdings) → at h q ≡ None → mappings_of frame (put place_cmp q k h) ≡ one_mapping k + mappings_of frame h
  put_mappings q k [] absent = first_mapping (q, k) []
  put_mappings q k (e ∷ h) absent = by (place_cmp q e.0) absent (put_mappings q k h)
    where
      by : (r : Ordering) → cond (is_eq r) (Some e.1) (at h q) ≡ None → (at h q ≡ None → mappings_of frame (put place_cmp q k h) ≡ one_mapping k + mappings_of frame h)
          → mappings_of frame (by_order r ((q, k) ∷ e ∷ h) ((e.0, k) ∷ h) (e ∷ put place_cmp q k h)) ≡ one_mapping k + mappings_of frame (e ∷ h)
      by Less absent rest = first_mapping (q, k) (e ∷ h)
      by Equal absent rest = absurd (cc absent)
      by Greater absent rest =
          let before = first_mapping e h in
          let after = first_mapping e (put place_cmp q k h) in
          let more = rest absent in
          omega (arith, before, after, more)

  -- a move keeps the number of mappings of each frame
  pub renamed_mappings : (es : List Pair) (h : Holdings) → Sorted h → MovesApart es h → mappings_of frame (renamed es h) ≡ mappings_of frame h
  renamed_mappings es [] sorted a = refl
  renamed_mappings es (e ∷ h) sorted a =
      let rest = renamed_mappings es h (tail_sorted es e h sorted) (tail_apart es e h sorted a) in
      put_mappings (moved_to es e.0) (moved es e.0 e.1) (renamed es h) (free (at (renamed es h) (moved_to es e.0)) refl) ∙ ap (λ n. one_mapping e.1 + n) rest ∙ sym (first_mapping e h)
    where
      free : (k : Option Held) → at (renamed es h) (moved_to es e.0) ≡ k → at (renamed es h) (moved_to es e.0) ≡ None
      free None is = is
      free (Some k) is =
          let w = renamed_was es h (moved_to es e.0) k (tail_sorted es e h sorted) is in
          let same = a.one w.place e.0 w.before e.1 (later e h w.place w.before sorted w.held) (first_held e h) w.to in
          absurd (cc (w.held, first_absent es e h sorted, ap (at h) same))
