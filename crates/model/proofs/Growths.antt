-- Lawful holdings in which rights grow, within those of origins, and that gain mappings of held origins, stay lawful.
use Rattle.std.proofs.Common.{◌≡◌, ℕ, zero, suc, true, false, length, Option, Some, None, refl, sym, ap, ◌∙◌, subst, ◌⊎◌, inl, inr}
use Rattle.std.specs.Option.{option_and_then}
use Rattle.fpage.specs.Rights.{is_empty}
use Rattle.space.specs.declared.place.Place.{Place}
use Rattle.model.specs.Definitions.Holdings.{Held, Holdings, at, origin_at}
use Rattle.model.specs.Definitions.Lawful.{ends}
use Rattle.model.proofs.Lookups.{Sorted}
use Rattle.model.proofs.LawfulParts.{IsLawful, IsOrigin}
use Rattle.model.proofs.Chains.{chain_ends, held_with_origin}
use Rattle.model.proofs.ChainLengths.{OriginsHeld, IsHeldIfAny, ends_within_length}

-- a mapping is still held at its place, with its frame and origin
pub record IsStillHeld (after : Holdings) (p : Place) (m : Held) : Type 0 where
  pub held : Held
  pub is : at after p ≡ Some held
  pub frame : held.frame ≡ m.frame
  pub origin : held.origin ≡ m.origin

-- what grows: all that is held stays, and what is new derives from a place that is held
pub record IsGrown (before after : Holdings) : Type 0 where
  pub sorted : Sorted after
  pub some : (p : Place) (k : Held) → at after p ≡ Some k → is_empty k.rights ≡ false
  pub origin : (p o : Place) (k : Held) → at after p ≡ Some k → k.origin ≡ Some o → IsOrigin after o k
  pub still : (p : Place) (m : Held) → at before p ≡ Some m → IsStillHeld after p m
  pub new : (p : Place) (k : Held) → at after p ≡ Some k → at before p ≡ None → (o : Place) × (k.origin ≡ Some o) × (m : Held) × (at before o ≡ Some m)

module _ (before after : Holdings) (l : IsLawful before) (g : IsGrown before after) where
  -- what was held at the place had this frame and this origin
  HadSame : Place → Held → Type 0
  HadSame p k = (m : Held) × (at before p ≡ Some m) × (k.frame ≡ m.frame) × (k.origin ≡ m.origin)

  was_or_new : (p : Place) (k : Held) → at after p ≡ Some k → HadSame p k ⊎ (at before p ≡ None)
  unfolding HadSame
  was_or_new p k is = by (at before p) refl
    where
      by : (m : Option Held) → at before p ≡ m → HadSame p k ⊎ (at before p ≡ None)
      by None absent = inr absent
      by (Some m) held =
          let s = g.still p m held in
          let one : s.held ≡ k = cc (s.is, is) in
          inl (m, held, sym (ap (λ x. x.frame) one) ∙ s.frame, sym (ap (λ x. x.origin) one) ∙ s.origin)

  origins_held : OriginsHeld after
  origins_held p o k is from = let origin = g.origin p o k is from in (origin.held, origin.is)

  still_ends : (n : ℕ) (o : Option Place) → IsHeldIfAny before o → ends n before o ≡ true → ends n after o ≡ true
  still_ends zero None held end = refl
  still_ends zero (Some q) held end = absurd (cc end)
  still_ends (suc n) None held end = refl
  still_ends (suc n) (Some q) held end =
      let m = held q refl in
      let s = g.still q m.0 m.1 in
      let same : origin_at after q ≡ origin_at before q = ap (option_and_then (λ m. m.origin)) s.is ∙ s.origin ∙ sym (ap (option_and_then (λ m. m.origin)) m.1) in
      let here : origin_at before q ≡ m.0.origin = ap (option_and_then (λ m. m.origin)) m.1 in
      let rest = still_ends n (origin_at before q) (λ o is. let origin = l.origin q o m.0 m.1 (sym here ∙ is) in (origin.held, origin.is)) end in
      subst (λ o. ends n after o ≡ true) (sym same) rest

  ending : (p : Place) (k : Held) → at after p ≡ Some k → ends (length after) after k.origin ≡ true
  unfolding HadSame
  ending p k is = by (was_or_new p k is)
    where
      any : IsHeldIfAny after k.origin
      any o from = origins_held p o k is from

      by : HadSame p k ⊎ (at before p ≡ None) → ends (length after) after k.origin ≡ true
      by (inl (m, held, frame, origin)) =
          let end = still_ends (length before) m.origin (λ o from. let o_is = l.origin p o m held from in (o_is.held, o_is.is)) (l.ending p m held) in
          ends_within_length after origins_held (length before) k.origin any (subst (λ o. ends (length before) after o ≡ true) (sym origin) end)
      by (inr absent) =
          let n = g.new p k is absent in
          let s = g.still n.0 n.2 n.3 in
          let same : origin_at after n.0 ≡ origin_at before n.0 = ap (option_and_then (λ m. m.origin)) s.is ∙ s.origin ∙ sym (ap (option_and_then (λ m. m.origin)) n.3) in
          let end = still_ends (length before) (origin_at before n.0) (λ o from. let h = held_with_origin before n.0 o from in let o_is = l.origin n.0 o h.0 h.1 h.2 in (o_is.held, o_is.is)) (chain_ends before l n.0) in
          let more : ends (suc (length before)) after (Some n.0) ≡ true = subst (λ o. ends (length before) after o ≡ true) (sym same) end in
          ends_within_length after origins_held (suc (length before)) k.origin any (subst (λ o. ends (suc (length before)) after o ≡ true) (sym n.1) more)

  root : (p q : Place) (m k : Held) → at after p ≡ Some m → at after q ≡ Some k → m.origin ≡ None → k.origin ≡ None → k.frame ≡ m.frame → q ≡ p
  unfolding HadSame
  root p q m k is_p is_q none_p none_q frame = by (was_or_new p m is_p) (was_or_new q k is_q)
    where
      by : HadSame p m ⊎ (at before p ≡ None) → HadSame q k ⊎ (at before q ≡ None) → q ≡ p
      by (inl (v, held_v, frame_v, origin_v)) (inl (w, held_w, frame_w, origin_w)) =
          l.root p q v w held_v held_w (sym origin_v ∙ none_p) (sym origin_w ∙ none_q) (sym frame_w ∙ frame ∙ frame_v)
      by (inr absent) _ = absurd (cc (none_p, (g.new p m is_p absent).1))
      by (inl _) (inr absent) = absurd (cc (none_q, (g.new q k is_q absent).1))

  -- what grows stays lawful
  pub lawful_grown : IsLawful after
  lawful_grown = record { sorted = g.sorted; some = g.some; origin = g.origin; ending = ending; root = root }
