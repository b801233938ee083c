-- Lawful holdings, by what is held where.
use Rattle.std.proofs.Common.{◌≡◌, true, false, Bool, ◌&&◌, ◌||◌, ◌==◌, not, length, Option, Some, None, refl, sym, ap, arith}
use Rattle.std.specs.FinMap.Entries.{is_sorted}
use Rattle.std.specs.List.{list_all}
use Rattle.std.specs.Option.{is_some}
use Rattle.std.proofs.lemmas.Bool.{and_parts, and_from, eqb-true, eq-eqb}
use Rattle.fpage.specs.Rights.{is_empty, is_within}
use Rattle.space.specs.declared.place.Place.{Place}
use Rattle.space.specs.Place.{place_cmp, same_place}
use Rattle.model.specs.Definitions.Holdings.{Held, Holdings, at}
use Rattle.model.specs.Definitions.Lawful.{ends, is_origin_of, has_lawful_origin, is_only_root, is_lawful_at, is_lawful}
use Rattle.space.proofs.Places.{same_is, same_self}
use Rattle.model.proofs.Lookups.{Sorted, all_at, all_from}

-- what an origin is
pub record IsOrigin (h : Holdings) (o : Place) (m : Held) : Type 0 where
  pub held : Held
  pub is : at h o ≡ Some held
  pub frame : m.frame ≡ held.frame
  pub within : is_within m.rights held.rights ≡ true

pub record IsLawful (h : Holdings) : Type 0 where
  pub sorted : Sorted h
  pub some : (p : Place) (m : Held) → at h p ≡ Some m → is_empty m.rights ≡ false
  pub origin : (p o : Place) (m : Held) → at h p ≡ Some m → m.origin ≡ Some o → IsOrigin h o m
  pub ending : (p : Place) (m : Held) → at h p ≡ Some m → ends (length h) h m.origin ≡ true
  pub root : (p q : Place) (m k : Held) → at h p ≡ Some m → at h q ≡ Some k → m.origin ≡ None → k.origin ≡ None → k.frame ≡ m.frame → q ≡ p

-- ---- from the test

origin_from : (h : Holdings) (o : Place) (m : Held) (k : Option Held) → at h o ≡ k → is_origin_of m k ≡ true → IsOrigin h o m
origin_from h o m None is test = absurd (cc test)
origin_from h o m (Some k) is test =
    let parts = and_parts (m_frame k) (is_within m.rights k.rights) test in
    record { held = k; is = is; frame = sym (eqb-true k.frame m.frame parts.0); within = parts.1 }
  where
    m_frame : Held → Bool
    m_frame k = k.frame == m.frame

four_parts : (a b c d : Bool) → (a && b && c && d) ≡ true → (a ≡ true) × (b ≡ true) × (c ≡ true) × (d ≡ true)
four_parts a b c d all = grind arith

four_from : (a b c d : Bool) → a ≡ true → b ≡ true → c ≡ true → d ≡ true → (a && b && c && d) ≡ true
four_from a b c d first second third fourth = grind arith

not_true : (a : Bool) → not a ≡ true → a ≡ false
not_true a is = grind arith

third : (a b c : Bool) → (a || not b || c) ≡ true → a ≡ false → b ≡ true → c ≡ true
third a b c any not_a is_b = grind arith

module _ (h : Holdings) where
  parts_at : is_lawful h ≡ true → (p : Place) (m : Held) → at h p ≡ Some m
      → (not (is_empty m.rights) ≡ true) × (has_lawful_origin h m m.origin ≡ true) × (ends (length h) h m.origin ≡ true) × (is_only_root h (p, m) ≡ true)
  parts_at lawful p m held =
      four_parts _ _ _ _ (all_at (is_lawful_at h) h p m (and_parts (is_sorted place_cmp h) (list_all (is_lawful_at h) h) lawful).1 held)

  only_root : (p q : Place) (m k : Held) → is_only_root h (p, m) ≡ true → at h q ≡ Some k → m.origin ≡ None → k.origin ≡ None → k.frame ≡ m.frame → q ≡ p
  only_root p q m k test held none_m none_k frame =
      let all : list_all (λ d. is_some d.1.origin || not (d.1.frame == m.frame) || same_place d.0 p) h ≡ true = rw none_m at test in
      let is_one : (is_some k.origin || not (k.frame == m.frame) || same_place q p) ≡ true = all_at (λ d. is_some d.1.origin || not (d.1.frame == m.frame) || same_place d.0 p) h q k all held in
      let root_k : is_some k.origin ≡ false = ap is_some none_k in
      same_is q p (third (is_some k.origin) (k.frame == m.frame) (same_place q p) is_one root_k (eq-eqb k.frame m.frame frame))

  pub lawful_parts : is_lawful h ≡ true → IsLawful h
  lawful_parts lawful = record {
    sorted = (and_parts (is_sorted place_cmp h) (list_all (is_lawful_at h) h) lawful).0;
    some = λ p m held. not_true _ (parts_at lawful p m held).0;
    origin = λ p o m held is. origin_from h o m (at h o) refl (rw is at (parts_at lawful p m held).1);
    ending = λ p m held. (parts_at lawful p m held).2;
    root = λ p q m k held_p held_q none_m none_k frame. only_root p q m k (parts_at lawful p m held_p).3 held_q none_m none_k frame;
  }

  -- ---- to the test

  origin_test : (o : Option Place) (m : Held) → ((q : Place) → o ≡ Some q → IsOrigin h q m) → has_lawful_origin h m o ≡ true
  origin_test None m origin = refl
  origin_test (Some q) m origin =
      let is = origin q refl in
      rw (is.is) (and_from _ _ (eq-eqb is.held.frame m.frame (sym is.frame)) is.within)

  root_test : (p q : Place) (m k : Held) (o : Option Place) → k.origin ≡ o → (k.origin ≡ None → k.frame ≡ m.frame → q ≡ p)
      → (is_some o || not (k.frame == m.frame) || same_place q p) ≡ true
  root_test p q m k (Some o) is root = refl
  root_test p q m k None is root = elim (k.frame == m.frame) as (λ b. (k.frame == m.frame) ≡ b → (not b || same_place q p) ≡ true) [
    | true ↦ λ same. rw (root is (eqb-true k.frame m.frame same)) (same_self p)
    | false ↦ λ _. refl
  ] refl

  only_root_test : (p : Place) (m : Held) (o : Option Place) → Sorted h → (o ≡ None → (q : Place) (k : Held) → at h q ≡ Some k → k.origin ≡ None → k.frame ≡ m.frame → q ≡ p)
      → (is_some o || list_all (λ d. is_some d.1.origin || not (d.1.frame == m.frame) || same_place d.0 p) h) ≡ true
  only_root_test p m (Some o) sorted root = refl
  only_root_test p m None sorted root = all_from _ h sorted (λ q k held. root_test p q m k k.origin refl (root refl q k held))

  pub lawful_from : IsLawful h → is_lawful h ≡ true
  lawful_from l = and_from _ _ l.sorted (all_from (is_lawful_at h) h l.sorted (λ p m held.
      four_from _ _ _ _ (rw (l.some p m held) refl)
      (origin_test m.origin m (λ o is. l.origin p o m held is))
      (l.ending p m held)
      (only_root_test p m m.origin l.sorted (λ none q k held_q none_k frame. l.root p q m k held held_q none none_k frame))))
