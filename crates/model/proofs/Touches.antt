-- Touch keeps holdings lawful; so does strip.
use Rattle.std.proofs.Common.{◌≡◌, true, false, Bool, Option, Some, refl, sym, ap, ◌∙◌, subst, ◌⊎◌, inl, inr, if◌then◌else◌}
use Rattle.fpage.specs.Rights.{has, is_within, is_empty}
use Rattle.fpage.specs.declared.rights.Access.{Access}
use Rattle.space.specs.declared.place.Place.{Place}
use Rattle.space.specs.Place.{same_place}
use Rattle.model.specs.Definitions.Holdings.{Held, Holdings, only, at, each, origin_at}
use Rattle.model.specs.Definitions.Derived.{is_below}
use Rattle.model.specs.Definitions.Touch.{can_touch, marked, touch}
use Rattle.model.specs.Definitions.Strip.{strip}
use Rattle.model.specs.Laws.LawfulLaws.{HoldsNoMore, DerivedHoldsNoMore, TouchKeepsLawful, StripKeepsLawful}
use Rattle.space.proofs.Places.{same_is}
use Rattle.fpage.proofs.RightSets.{within_has}
use Rattle.model.proofs.LawfulParts.{IsLawful, lawful_parts, lawful_from}
use Rattle.model.proofs.Chains.{along, below_cases, held_with_origin}
use Rattle.model.proofs.EvenChanges.{IsEven, lawful_each}
use Rattle.model.proofs.StripAt.{lawful_strip}
use Rattle.model.proofs.Derivations.{leads_below}

-- the change that touch makes
abbrev pub touching : Place → Access → Place → Held → Option Held
touching p a q m = Some (if same_place p q then marked a m else m)

-- but for its status a mapping stays
record OnlyStatus (m k : Held) : Type 0 where
  frame : k.frame ≡ m.frame
  origin : k.origin ≡ m.origin
  rights : k.rights ≡ m.rights

only_status : (b : Bool) (a : Access) (m k : Held) → Some (if b then marked a m else m) ≡ Some k → OnlyStatus m k
only_status true a m k is = let same : marked a m ≡ k = cc in record { frame = ap (λ x. x.frame) (sym same); origin = ap (λ x. x.origin) (sym same); rights = ap (λ x. x.rights) (sym same) }
only_status false a m k is = let same : m ≡ k = cc in record { frame = ap (λ x. x.frame) (sym same); origin = ap (λ x. x.origin) (sym same); rights = ap (λ x. x.rights) (sym same) }

module _ (h : Holdings) (l : IsLawful h) (t : Place) (a : Access) where
  pub touch_even : IsEven h (touching t a)
  touch_even = record {
    frame = λ p m k held is. (only_status (same_place t p) a m k is).frame;
    origin = λ p m k held is. (only_status (same_place t p) a m k is).origin;
    some = λ p m k held is. subst (λ r. is_empty r ≡ false) (sym (only_status (same_place t p) a m k is).rights) (l.some p m held);
    even = λ p o m n k held from held_o is.
        let left = if same_place t o then marked a n else n in
        let origin = l.origin p o m held from in
        let same : origin.held ≡ n = cc (origin.is, held_o) in
        let before : is_within m.rights n.rights ≡ true = subst (λ x. is_within m.rights x.rights ≡ true) same origin.within in
        record {
          held = left;
          is = refl;
          within = subst (λ r. is_within k.rights r ≡ true) (sym (only_status (same_place t o) a n left refl).rights)
              (subst (λ r. is_within r n.rights ≡ true) (sym (only_status (same_place t p) a m k is).rights) before);
        };
  }

  lawful_touched : (b : Bool) → IsLawful (if b then each (touching t a) h else h)
  lawful_touched true = lawful_each h (touching t a) l touch_even
  lawful_touched false = l

  pub lawful_touch : IsLawful (touch h t a)
  lawful_touch = lawful_touched (can_touch h t a)

pub touch_keeps_lawful : TouchKeepsLawful
touch_keeps_lawful h lawful p a = lawful_from (touch h p a) (lawful_touch h (lawful_parts h lawful) p a)

pub strip_keeps_lawful : StripKeepsLawful
strip_keeps_lawful h lawful set a f = lawful_from (strip h set a f) (lawful_strip h set a f (lawful_parts h lawful))

-- ---- a derived mapping holds no more

no_more : (h : Holdings) → IsLawful h → (q : Place) (from : Held) → at h q ≡ Some from → (p : Place) → is_below h (only q) p ≡ true → (m : Held) → at h p ≡ Some m → HoldsNoMore m from
no_more h l q from held_q = along h l (λ p. is_below h (only q) p ≡ true → (m : Held) → at h p ≡ Some m → HoldsNoMore m from) (λ p ih below m held. by p ih m held (below_cases h l (only q) p below))
  where
    by : (p : Place) → ((o : Place) → origin_at h p ≡ Some o → is_below h (only q) o ≡ true → (m : Held) → at h o ≡ Some m → HoldsNoMore m from) → (m : Held) → at h p ≡ Some m
        → (same_place q p ≡ true) ⊎ ((o : Place) × (origin_at h p ≡ Some o) × (is_below h (only q) o ≡ true)) → HoldsNoMore m from
    by p ih m held (inl same) =
        let one : from ≡ m = cc (held_q, held, ap (at h) (same_is q p same)) in
        record { frame = ap (λ x. x.frame) (sym one); rights = λ r is. subst (λ x. has x.rights r ≡ true) (sym one) is }
    by p ih m held (inr (o, is, below)) =
        let c = held_with_origin h p o is in
        let one : c.0 ≡ m = cc (c.1, held) in
        let origin = l.origin p o m held (subst (λ x. x.origin ≡ Some o) one c.2) in
        let above = ih o is below origin.held origin.is in
        record { frame = origin.frame ∙ above.frame; rights = λ r has_it. above.rights r (within_has m.rights origin.held.rights r origin.within has_it) }

pub derived_holds_no_more : DerivedHoldsNoMore
derived_holds_no_more h lawful p q m from chain held held_q = let l = lawful_parts h lawful in no_more h l q from held_q p (leads_below h l (only q) p chain) m held
