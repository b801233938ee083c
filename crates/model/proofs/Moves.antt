-- Pairs that move: where a place moves by one pair, and that no two places become one.
use Rattle.std.proofs.Common.{◌≡◌, ℕ, true, false, Bool, List, [], ◌∷◌, Some, None, unwrap_or, refl, sym, ap, ◌∙◌, ◌⊎◌, inl, inr, if◌then◌else◌}
use Rattle.space.specs.declared.place.Place.{Place}
use Rattle.space.specs.Place.{same_place}
use Rattle.space.proofs.Places.{same_self}
use Rattle.model.specs.Definitions.Holdings.{Held, Holdings, at}
use Rattle.model.specs.Definitions.Items.{Pair, sources_of}
use Rattle.model.specs.Definitions.Grant.{moved_to}
use Rattle.model.specs.Laws.SendLaws.{In}
use Rattle.model.proofs.Jobs.{ArePaired, one_target_of}
use Rattle.model.proofs.Renames.{moved_cases, MovesApart}

-- ---- one pair

-- its source moves, and any other place stays
module _ (e : Pair) where
  pub one_moved_to : (p : Place) → moved_to (e ∷ []) p ≡ (if same_place e.0 p then e.1 else p)
  one_moved_to p = by (same_place e.0 p)
    where
      by : (b : Bool) → unwrap_or (if b then Some e.1 else None) p ≡ (if b then e.1 else p)
      by true = refl
      by false = refl

  pub one_source : moved_to (e ∷ []) e.0 ≡ e.1
  one_source = one_moved_to e.0 ∙ ap (λ b. if b then e.1 else e.0) (same_self e.0)

  pub one_other : (p : Place) → same_place e.0 p ≡ false → moved_to (e ∷ []) p ≡ p
  one_other p apart = one_moved_to p ∙ ap (λ b. if b then e.1 else p) apart

-- ---- no two become one

module _ (from to : ℕ) (es : List Pair) (paired : ArePaired from to es) (h : Holdings) (free : (e : Pair) → In e es → at h e.1 ≡ None) where
  -- pairs with distinct targets that are not held make no two held places one
  pub paired_apart : MovesApart es h
  paired_apart = record { one = λ p q m k held_p held_q to. by p q m k held_p held_q to (moved_cases es p) (moved_cases es q) }
    where
      by : (p q : Place) (m k : Held) → at h p ≡ Some m → at h q ≡ Some k → moved_to es p ≡ moved_to es q
          → ((e : Pair) × In e es × (e.0 ≡ p) × (moved_to es p ≡ e.1)) ⊎ ((sources_of es p ≡ false) × (moved_to es p ≡ p))
          → ((e : Pair) × In e es × (e.0 ≡ q) × (moved_to es q ≡ e.1)) ⊎ ((sources_of es q ≡ false) × (moved_to es q ≡ q))
          → p ≡ q
      by p q m k held_p held_q to_both (inl (d, in_d, is_p, to_d)) (inl (e, in_e, is_q, to_e)) =
          let one = one_target_of from to es paired d e in_d in_e (sym to_d ∙ to_both ∙ to_e) in
          sym is_p ∙ ap (λ x. x.0) one ∙ is_q
      by p q m k held_p held_q to_both (inl (d, in_d, is_p, to_d)) (inr (none, stays)) = absurd (cc (held_q, free d in_d, ap (at h) (sym to_d ∙ to_both ∙ stays)))
      by p q m k held_p held_q to_both (inr (none, stays)) (inl (e, in_e, is_q, to_e)) = absurd (cc (held_p, free e in_e, ap (at h) (sym to_e ∙ sym to_both ∙ stays)))
      by p q m k held_p held_q to_both (inr (none_p, stays_p)) (inr (none_q, stays_q)) = sym stays_p ∙ to_both ∙ stays_q
