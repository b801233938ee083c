-- What is held at a place after each mapping was changed; holdings with the same mappings are one.
use Rattle.std.proofs.Common.{◌≡◌, true, false, Bool, [], ◌∷◌, Option, Some, None, refl, sym, ap, ◌∙◌, subst, ◌⊎◌, inl, inr, T}
use Rattle.std.specs.Ordering.{is_lt, is_eq}
use Rattle.std.specs.declared.cmp.Ordering.{Ordering}
use Rattle.std.specs.declared.cmp.Ordering.TheVariants.{Less, Equal, Greater}
use Rattle.std.specs.FinMap.Entries.{below_all, is_sorted, same_entries}
use Rattle.std.specs.List.{list_all}
use Rattle.std.proofs.lemmas.Bool.{and_parts, and_from}
use Rattle.space.specs.declared.place.Place.{Place}
use Rattle.space.specs.Place.{place_cmp, same_place}
use Rattle.model.specs.Definitions.Holdings.{Held, Holdings, at, each, keep}
use Rattle.space.proofs.Places.{places_total, same_is, same_self, same_or_apart}

-- each place once, by rising place
abbrev pub Sorted : Holdings → Type 0
Sorted h = is_sorted place_cmp h ≡ true

less_apart : (o : Ordering) → is_lt o ≡ true → is_eq o ≡ false
less_apart Less p = refl
less_apart Equal p = sym p
less_apart Greater p = refl

-- a place below all that are held is not held
pub below_absent : (p : Place) (h : Holdings) → below_all place_cmp p h ≡ true → at h p ≡ None
below_absent p [] low = refl
below_absent p (e ∷ h) low =
    let parts = and_parts (is_lt (place_cmp p e.0)) (below_all place_cmp p h) low in
    rw (less_apart (place_cmp p e.0) parts.0) (below_absent p h parts.1)

-- what a change leaves of what is held at a place
abbrev pub changed : (Place → Held → Option Held) → Place → Option Held → Option Held
changed g p None = None
changed g p (Some m) = g p m

at_kept : (p q : Place) (m : Option Held) (h : Holdings) → same_place p q ≡ false → at (keep q m h) p ≡ at h p
at_kept p q None h apart = refl
at_kept p q (Some m) h apart = rw apart refl

at_first : (p : Place) (m : Option Held) (h : Holdings) → at h p ≡ None → at (keep p m h) p ≡ m
at_first p None h absent = absent
at_first p (Some m) h absent = rw (same_self p) refl

module _ (g : Place → Held → Option Held) where
  pub at_each : (h : Holdings) (p : Place) → Sorted h → at (each g h) p ≡ changed g p (at h p)
  at_each [] p sorted = refl
  at_each (e ∷ h) p sorted =
      let parts = and_parts (below_all place_cmp e.0 h) (is_sorted place_cmp h) sorted in
      at_more e h p (same_or_apart p e.0) (below_absent e.0 h parts.0) (at_each h p parts.1)
    where
      at_more : (e : Place × Held) (h : Holdings) (p : Place) → (p ≡ e.0) ⊎ (same_place p e.0 ≡ false) → at h e.0 ≡ None → at (each g h) p ≡ changed g p (at h p) → at (each g (e ∷ h)) p ≡ changed g p (at (e ∷ h) p)
      at_more e h p (inl same) absent rest =
          let gone : at (each g h) e.0 ≡ None = subst (λ q. at (each g h) q ≡ changed g q (at h q)) same rest ∙ ap (changed g e.0) absent in
          rw (same, same_self e.0) (at_first e.0 (g e.0 e.1) (each g h) gone)
      at_more e h p (inr apart) absent rest = rw apart (at_kept p e.0 (g e.0 e.1) (each g h) apart ∙ rest)

-- a change keeps the order
below_keep : (p : Place) (e : Place × Held) (m : Option Held) (h : Holdings) → is_lt (place_cmp p e.0) ≡ true → below_all place_cmp p h ≡ true → below_all place_cmp p (keep e.0 m h) ≡ true
below_keep p e None h less low = low
below_keep p e (Some m) h less low = and_from _ _ less low

sorted_keep : (p : Place) (m : Option Held) (h : Holdings) → below_all place_cmp p h ≡ true → Sorted h → Sorted (keep p m h)
sorted_keep p None h low sorted = sorted
sorted_keep p (Some m) h low sorted = and_from _ _ low sorted

module _ (g : Place → Held → Option Held) where
  below_each : (p : Place) (h : Holdings) → below_all place_cmp p h ≡ true → below_all place_cmp p (each g h) ≡ true
  below_each p [] low = refl
  below_each p (e ∷ h) low =
      let parts = and_parts (is_lt (place_cmp p e.0)) (below_all place_cmp p h) low in
      below_keep p e (g e.0 e.1) (each g h) parts.0 (below_each p h parts.1)

  pub sorted_each : (h : Holdings) → Sorted h → Sorted (each g h)
  sorted_each [] sorted = refl
  sorted_each (e ∷ h) sorted =
      let parts = and_parts (below_all place_cmp e.0 h) (is_sorted place_cmp h) sorted in
      sorted_keep e.0 (g e.0 e.1) (each g h) (below_each e.0 h parts.0) (sorted_each h parts.1)

from_truth : (b : Bool) → b ≡ true → T b
from_truth b is = subst T (sym is) tt

-- holdings that hold the same at each place are one
pub same_holdings : (h k : Holdings) → Sorted h → Sorted k → ((p : Place) → at h p ≡ at k p) → h ≡ k
same_holdings h k sorted_h sorted_k same =
    same_entries place_cmp places_total (λ p q tied. same_is p q (rw tied refl)) h k (from_truth _ sorted_h) (from_truth _ sorted_k) same

-- what is held later in the list is held at a place of its own
pub later : (e : Place × Held) (h : Holdings) (p : Place) (m : Held) → Sorted (e ∷ h) → at h p ≡ Some m → at (e ∷ h) p ≡ Some m
later e h p m sorted held = later_by (same_or_apart p e.0)
  where
    absent : at h e.0 ≡ None
    absent = below_absent e.0 h (and_parts (below_all place_cmp e.0 h) (is_sorted place_cmp h) sorted).0

    later_by : (p ≡ e.0) ⊎ (same_place p e.0 ≡ false) → at (e ∷ h) p ≡ Some m
    later_by (inl same) = cc (held, absent, ap (at h) same)
    later_by (inr apart) = rw apart held

pub first_held : (e : Place × Held) (h : Holdings) → at (e ∷ h) e.0 ≡ Some e.1
first_held e h = rw (same_self e.0) refl

-- what is held in a list is its first mapping, or is held later
pub held_cases : (e : Place × Held) (h : Holdings) (p : Place) (m : Held) → at (e ∷ h) p ≡ Some m → ((p ≡ e.0) × (m ≡ e.1)) ⊎ (at h p ≡ Some m)
held_cases e h p m held = by (same_or_apart p e.0)
  where
    by : (p ≡ e.0) ⊎ (same_place p e.0 ≡ false) → ((p ≡ e.0) × (m ≡ e.1)) ⊎ (at h p ≡ Some m)
    by (inl same) =
        let here : at (e ∷ h) p ≡ Some e.1 = rw (same, same_self e.0) refl in
        inl (same, cc (held, here))
    by (inr apart) = inr (rw apart at held)

-- a test of all mappings, by what is held where
module _ (test : Place × Held → Bool) where
  pub all_at : (h : Holdings) (p : Place) (m : Held) → list_all test h ≡ true → at h p ≡ Some m → test (p, m) ≡ true
  all_at [] p m all held = absurd (cc held)
  all_at (e ∷ h) p m all held =
      let parts = and_parts (test e) (list_all test h) all in
      by parts.0 (λ k. all_at h p m parts.1 k) (held_cases e h p m held)
    where
      by : test e ≡ true → (at h p ≡ Some m → test (p, m) ≡ true) → ((p ≡ e.0) × (m ≡ e.1)) ⊎ (at h p ≡ Some m) → test (p, m) ≡ true
      by first rest (inl (same, is)) = rw (same, is) first
      by first rest (inr k) = rest k

  pub all_from : (h : Holdings) → Sorted h → ((p : Place) (m : Held) → at h p ≡ Some m → test (p, m) ≡ true) → list_all test h ≡ true
  all_from [] sorted each_one = refl
  all_from (e ∷ h) sorted each_one =
      and_from _ _ (each_one e.0 e.1 (first_held e h))
      (all_from h (and_parts (below_all place_cmp e.0 h) (is_sorted place_cmp h) sorted).1 (λ p m held. each_one p m (later e h p m sorted held)))

-- ---- changes that leave the same

-- two changes in turn leave what a third leaves, if they do so of what is held
pub each_twice : (first next both : Place → Held → Option Held) (h : Holdings) → Sorted h → ((p : Place) (m : Held) → at h p ≡ Some m → changed next p (first p m) ≡ both p m) → each next (each first h) ≡ each both h
each_twice first next both h sorted same =
    same_holdings _ _ (sorted_each next (each first h) (sorted_each first h sorted)) (sorted_each both h sorted) (λ p.
    at_each next (each first h) p (sorted_each first h sorted) ∙ ap (changed next p) (at_each first h p sorted) ∙ by p (at h p) refl ∙ sym (at_each both h p sorted))
  where
    by : (p : Place) (o : Option Held) → at h p ≡ o → changed next p (changed first p o) ≡ changed both p o
    by p None is = refl
    by p (Some m) is = same p m is

-- a change that keeps what is held changes nothing
pub each_kept : (g : Place → Held → Option Held) (h : Holdings) → Sorted h → ((p : Place) (m : Held) → at h p ≡ Some m → g p m ≡ Some m) → each g h ≡ h
each_kept g h sorted same = same_holdings _ _ (sorted_each g h sorted) sorted (λ p. at_each g h p sorted ∙ by p (at h p) refl)
  where
    by : (p : Place) (o : Option Held) → at h p ≡ o → changed g p o ≡ o
    by p None is = refl
    by p (Some m) is = same p m is

-- changes that agree on what is held leave the same
pub same_each : (g k : Place → Held → Option Held) (h : Holdings) → Sorted h → ((p : Place) (m : Held) → at h p ≡ Some m → g p m ≡ k p m) → each g h ≡ each k h
same_each g k h sorted same = same_holdings _ _ (sorted_each g h sorted) (sorted_each k h sorted) (λ p. at_each g h p sorted ∙ by p (at h p) refl ∙ sym (at_each k h p sorted))
  where
    by : (p : Place) (o : Option Held) → at h p ≡ o → changed g p o ≡ changed k p o
    by p None is = refl
    by p (Some m) is = same p m is
