-- The holdings at the start are lawful.
use Rattle.std.proofs.Common.{◌≡◌, ℕ, zero, suc, ◌+◌, ◌≤◌, ◌<◌, true, eq-or-lt_of_le, subst, length, Some, None, refl, sym, ap, ◌∙◌, arith, ◌⊎◌, inl, inr}
use Rattle.std.specs.FinMap.Entries.{below_all}
use Rattle.std.specs.Ordering.{is_lt}
use Rattle.std.proofs.lemmas.Bool.{and_from}
use Rattle.std.proofs.lemmas.Bool.Decides.{nat_tests}
use Rattle.fpage.specs.Rights.{all_rights, is_empty}
use Rattle.space.specs.declared.place.Place.{Place}
use Rattle.space.specs.Place.{place_cmp}
use Rattle.model.specs.Definitions.Holdings.{Held, at}
use Rattle.model.specs.Definitions.Lawful.{ends}
use Rattle.model.specs.Definitions.Replay.{root, roots_from, start}
use Rattle.model.specs.Laws.LawfulLaws.{StartIsLawful}
use Rattle.model.specs.Laws.ReplayLaws.{StartSays}
use Rattle.model.proofs.Lookups.{Sorted, later, first_held, held_cases}
use Rattle.model.proofs.LawfulParts.{IsLawful, lawful_from}

less_page : (i j : ℕ) → i < j → is_lt (place_cmp (record { space = 0; page = i }) (record { space = 0; page = j })) ≡ true
less_page i j less = grind (arith, nat_tests)

below_roots : (i j n : ℕ) → i < j → below_all place_cmp (record { space = 0; page = i }) (roots_from j n) ≡ true
below_roots i j zero less = refl
below_roots i j (suc n) less = and_from _ _ (less_page i j less) (below_roots i (j + 1) n (omega arith))

sorted_roots : (i n : ℕ) → Sorted (roots_from i n)
sorted_roots i zero = refl
sorted_roots i (suc n) = and_from _ _ (below_roots i (i + 1) n (omega arith)) (sorted_roots (i + 1) n)

-- what is held at the start
record IsRoot (p : Place) (m : Held) : Type 0 where
  space : p.space ≡ 0
  frame : m.frame ≡ p.page
  rights : m.rights ≡ all_rights
  origin : m.origin ≡ None

root_at : (i n : ℕ) (p : Place) (m : Held) → at (roots_from i n) p ≡ Some m → IsRoot p m
root_at i zero p m held = absurd (cc held)
root_at i (suc n) p m held = by (held_cases (root i) (roots_from (i + 1) n) p m held) (λ k. root_at (i + 1) n p m k)
  where
    by : ((p ≡ (root i).0) × (m ≡ (root i).1)) ⊎ (at (roots_from (i + 1) n) p ≡ Some m) → (at (roots_from (i + 1) n) p ≡ Some m → IsRoot p m) → IsRoot p m
    by (inl (same, is)) rest = record { space = ap (λ x. x.space) same; frame = ap (λ x. x.frame) is ∙ sym (ap (λ x. x.page) same); rights = ap (λ x. x.rights) is; origin = ap (λ x. x.origin) is }
    by (inr k) rest = rest k

one_place : (p q : Place) → p.space ≡ q.space → p.page ≡ q.page → p ≡ q
one_place p q space page = λ i. record { space = space i; page = page i }

pub lawful_roots : (i n : ℕ) → IsLawful (roots_from i n)
lawful_roots i n = record {
  sorted = sorted_roots i n;
  some = λ p m held. let r = root_at i n p m held in ap is_empty r.rights;
  origin = λ p o m held from. let r = root_at i n p m held in absurd (cc (r.origin, from));
  ending = λ p m held. let r = root_at i n p m held in rw (r.origin) (none_ends (length (roots_from i n)));
  root = λ p q m k held_p held_q none_p none_q frame.
      let r = root_at i n p m held_p in
      let s = root_at i n q k held_q in
      one_place q p (s.space ∙ sym r.space) (sym s.frame ∙ frame ∙ r.frame);
}
  where
    none_ends : (n : ℕ) → ends n (roots_from i n) None ≡ true
    none_ends zero = refl
    none_ends (suc n) = refl

pub start_is_lawful : StartIsLawful
start_is_lawful limits = lawful_from (start limits) (lawful_roots 0 limits.frames)

-- ---- what is held at the start

held_root : (n i j : ℕ) → i ≤ j → j < i + n → at (roots_from i n) (root j).0 ≡ Some (root j).1
held_root zero i j low high = absurd (none low high)
  where
    none : i ≤ j → j < i + 0 → ⊥
    none low high = omega arith
held_root (suc n) i j low high = by (eq-or-lt_of_le low) (λ more. held_root n (i + 1) j more (omega arith))
  where
    by : (i ≡ j) ⊎ (i < j) → (i + 1 ≤ j → at (roots_from (i + 1) n) (root j).0 ≡ Some (root j).1) → at (roots_from i (suc n)) (root j).0 ≡ Some (root j).1
    by (inl same) rest = subst (λ k. at (roots_from i (suc n)) (root k).0 ≡ Some (root k).1) same (first_held (root i) (roots_from (i + 1) n))
    by (inr more) rest = later (root i) (roots_from (i + 1) n) (root j).0 (root j).1 (sorted_roots i (suc n)) (rest (omega arith))

root_within : (n i : ℕ) (p : Place) (m : Held) → at (roots_from i n) p ≡ Some m → p.page < i + n
root_within zero i p m held = absurd (cc held)
root_within (suc n) i p m held = by (held_cases (root i) (roots_from (i + 1) n) p m held) (λ k. root_within n (i + 1) p m k)
  where
    by : ((p ≡ (root i).0) × (m ≡ (root i).1)) ⊎ (at (roots_from (i + 1) n) p ≡ Some m) → (at (roots_from (i + 1) n) p ≡ Some m → p.page < i + 1 + n) → p.page < i + suc n
    by (inl (same, is)) rest = let page : p.page ≡ i = ap (λ (x : Place). x.page) same in omega (arith, page)
    by (inr k) rest = let below = rest k in omega (arith, below)

pub start_says : StartSays
start_says limits = record {
  roots = λ i below. held_root limits.frames 0 i (omega arith) (omega arith);
  others = λ p m held. let within = root_within limits.frames 0 p m held in ((root_at 0 limits.frames p m held).space, omega (arith, within));
}
