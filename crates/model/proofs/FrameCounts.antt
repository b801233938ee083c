-- How many mappings of a frame a change leaves.
use Rattle.std.proofs.Common.{◌≡◌, ℕ, ◌+◌, true, false, Bool, ◌&&◌, not, ◌==◌, cond, [], ◌∷◌, length, filter, Option, Some, None, refl, ap, ◌∙◌, arith}
use Rattle.std.specs.FinMap.Entries.{below_all, is_sorted}
use Rattle.std.specs.Option.{is_some}
use Rattle.std.proofs.lemmas.Bool.{and_parts}
use Rattle.space.specs.declared.place.Place.{Place}
use Rattle.space.specs.Place.{place_cmp}
use Rattle.model.specs.Definitions.Holdings.{Held, Holdings, at, is_held, each, keep}
use Rattle.model.specs.Laws.SendLaws.{mappings_of, lost_of}
use Rattle.model.proofs.Lookups.{Sorted, changed, at_each, later, first_held, sorted_each, each_twice}
use Rattle.model.proofs.Renames.{one_mapping, first_mapping}

-- a change that keeps frames
abbrev pub KeepsFrames : Holdings → (Place → Held → Option Held) → Type 0
KeepsFrames h change = (p : Place) (m k : Held) → at h p ≡ Some m → change p m ≡ Some k → k.frame ≡ m.frame

-- 1 where a test passes
abbrev one : Bool → ℕ
one b = cond b 1 0

length_if : (b : Bool) (e : Place × Held) (h : Holdings) → length (cond b (e ∷ h) h) ≡ one b + length h
length_if true e h = omega arith
length_if false e h = omega arith

module _ (frame : ℕ) (change : Place → Held → Option Held) (stays : Place → Bool) where
  abbrev lost : Holdings → ℕ
  lost h = length (filter (λ e. (e.1.frame == frame) && not (stays e.0)) h)

  -- what is left and what is lost are all
  left_and_lost : (h : Holdings) → Sorted h → KeepsFrames h change → ((p : Place) (m : Held) → at h p ≡ Some m → stays p ≡ is_some (change p m))
      → mappings_of frame (each change h) + lost h ≡ mappings_of frame h
  left_and_lost [] sorted keeps told = refl
  left_and_lost (e ∷ h) sorted keeps told =
      let parts = and_parts (below_all place_cmp e.0 h) (is_sorted place_cmp h) sorted in
      let rest = left_and_lost h parts.1 (λ p m k held is. keeps p m k (later e h p m sorted held) is) (λ p m held. told p m (later e h p m sorted held)) in
      by (change e.0 e.1) refl rest
    where
      lost_first : lost (e ∷ h) ≡ one ((e.1.frame == frame) && not (stays e.0)) + lost h
      lost_first = length_if ((e.1.frame == frame) && not (stays e.0)) e (filter (λ e. (e.1.frame == frame) && not (stays e.0)) h)

      none_lost : (b : Bool) → one (b && not true) ≡ 0
      none_lost true = refl
      none_lost false = refl

      one_lost : (b : Bool) → one (b && not false) ≡ one b
      one_lost true = refl
      one_lost false = refl

      by : (k : Option Held) → change e.0 e.1 ≡ k → mappings_of frame (each change h) + lost h ≡ mappings_of frame h
          → mappings_of frame (keep e.0 (change e.0 e.1) (each change h)) + lost (e ∷ h) ≡ mappings_of frame (e ∷ h)
      by None is rest =
          let gone : stays e.0 ≡ false = told e.0 e.1 (first_held e h) ∙ ap is_some is in
          let first = lost_first ∙ ap (λ b. one ((e.1.frame == frame) && not b) + lost h) gone ∙ ap (λ n. n + lost h) (one_lost (e.1.frame == frame)) in
          let all = first_mapping frame e h in
          rw is (omega (arith, rest, first, all))
      by (Some k) is rest =
          let there : stays e.0 ≡ true = told e.0 e.1 (first_held e h) ∙ ap is_some is in
          let first = lost_first ∙ ap (λ b. one ((e.1.frame == frame) && not b) + lost h) there ∙ ap (λ n. n + lost h) (none_lost (e.1.frame == frame)) in
          let same : one_mapping frame k ≡ one_mapping frame e.1 = ap (λ n. one (n == frame)) (keeps e.0 e.1 k (first_held e h) is) in
          let all = first_mapping frame e h in
          let left = first_mapping frame (e.0, k) (each change h) in
          rw is (omega (arith, rest, first, all, left, same))

-- two changes one after the other
pub left_of_two : (frame : ℕ) (first next : Place → Held → Option Held) (h : Holdings) → Sorted h → KeepsFrames h first → KeepsFrames (each first h) next
    → mappings_of frame (each next (each first h)) + lost_of frame h (each next (each first h)) ≡ mappings_of frame h
left_of_two frame first next h sorted keeps_first keeps_next =
    ap (λ k. mappings_of frame k + lost_of frame h (each next (each first h))) (each_twice first next both h sorted (λ p m held. refl))
    ∙ left_and_lost frame both (is_held (each next (each first h))) h sorted (λ p m k held is. frames p m k held (first p m) refl is) (λ p m held. ap is_some (left_at p m held))
  where
    both : Place → Held → Option Held
    both p m = changed next p (first p m)

    left_at : (p : Place) (m : Held) → at h p ≡ Some m → at (each next (each first h)) p ≡ changed next p (first p m)
    left_at p m held =
        at_each next (each first h) p (sorted_each first h sorted) ∙ ap (changed next p) (at_each first h p sorted ∙ ap (changed first p) held)

    frames : (p : Place) (m k : Held) → at h p ≡ Some m → (c : Option Held) → first p m ≡ c → changed next p c ≡ Some k → k.frame ≡ m.frame
    frames p m k held None is left = absurd (cc left)
    frames p m k held (Some c) is left =
        keeps_next p c k (at_each first h p sorted ∙ ap (changed first p) held ∙ is) left ∙ keeps_first p m c held is
