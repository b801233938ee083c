-- Accesses of pages whose shards are not there are faults; so what the others leave and answer is what all do.
use Rattle.std.proofs.Common.{◌≡◌, true, false, Bool, List, [], ◌∷◌, map, filter, get_or, Option, Some, None, refl, sym, ap, ◌∙◌, if◌then◌else◌}
use Rattle.std.specs.List.{All}
use Rattle.std.specs.Option.{option_map_or}
use Rattle.std.proofs.lemmas.Bool.{ltb-true, lt-ltb}
use Rattle.std.proofs.lemmas.List.Elements.{All-head, All-tail, filter_passes}
use Rattle.fpage.specs.Rights.{has}
use Rattle.fpage.specs.declared.rights.Access.{Access}
use Rattle.space.specs.declared.place.Place.{Place}
use Rattle.space.specs.declared.shards.Shards.{Shards}
use Rattle.space.specs.Shards.{HasWord, index_of, word_count}
use Rattle.space.specs.Place.{same_place}
use Rattle.model.specs.Definitions.Holdings.{Held, Holdings, at, each}
use Rattle.model.specs.Definitions.Touch.{can_touch, marked, touch}
use Rattle.model.proofs.Lookups.{Sorted, changed, at_each, sorted_each}
use Rattle.maptree.specs.Origins.{Shape}
use Rattle.space.proofs.ShardWords.{absent_unless}
use Rattle.model.proofs.LawfulParts.{lawful_parts}
use Rattle.holdings.specs.Contents.{touched_all, access_answers}
use Rattle.holdings.specs.Places.{IsWithin}
use Rattle.holdings.specs.Inner.Held.{limits_in, holdings_in}
use Rattle.holdings.specs.Inner.Sound.{AreSound}
use Rattle.holdings.specs.Inner.Faults.{is_there, with_faults}
use Rattle.holdings.proofs.Contents.Accesses.{touch_fault}
use Rattle.holdings.proofs.Contents.Holders.{absent_within}

-- the shards of those that are kept are there
pub kept_there : (s : Shards) (ts : List (Place × Access)) → All (λ t. HasWord s t.0) (filter (is_there s) ts)
kept_there s ts k d less = ltb-true (index_of s (get_or (filter (is_there s) ts) k d).0) (word_count s) (filter_passes (is_there s) ts k d less)

-- ---- one access

abbrev marking : Place → Access → Place → Held → Option Held
marking p a q m = Some (if same_place p q then marked a m else m)

module _ (h : Holdings) (p : Place) (a : Access) where
  -- an access gives no page anything to hold
  touch_absent : (q : Place) → Sorted h → at h q ≡ None → at (touch h p a) q ≡ None
  touch_absent q sorted absent = by (can_touch h p a)
    where
      by : (b : Bool) → at (if b then each (marking p a) h else h) q ≡ None
      by true = at_each (marking p a) h q sorted ∙ ap (changed (marking p a) q) absent
      by false = absent

  touch_sorted : Sorted h → Sorted (touch h p a)
  touch_sorted sorted = by (can_touch h p a)
    where
      by : (b : Bool) → Sorted (if b then each (marking p a) h else h)
      by true = sorted_each (marking p a) h sorted
      by false = sorted

  -- an access of a page that holds nothing is a fault
  fault : at h p ≡ None → can_touch h p a ≡ false
  fault absent = ap (λ o. option_map_or (λ m. has m.rights a) o false) absent

-- ---- all of them

-- a page whose shard is not there holds nothing
abbrev AreAbsent : (Place × Access → Bool) → Holdings → List (Place × Access) → Type 0
AreAbsent there h ts = All (λ t. there t ≡ false → at h t.0 ≡ None) ts

absent_still : (there : Place × Access → Bool) (h : Holdings) (ts : List (Place × Access)) (p : Place) (a : Access) → Sorted h → AreAbsent there h ts → AreAbsent there (touch h p a) ts
absent_still there h ts p a sorted absent k d less away = touch_absent h p a (get_or ts k d).0 sorted (absent k d less away)

module _ (there : Place × Access → Bool) where
  rest : (h : Holdings) (t : Place × Access) (ts : List (Place × Access)) → AreAbsent there h (t ∷ ts) → AreAbsent there h ts
  rest h t ts absent = All-tail (λ u. there u ≡ false → at h u.0 ≡ None) t ts absent

  first_fault : (h : Holdings) (t : Place × Access) (ts : List (Place × Access)) → AreAbsent there h (t ∷ ts) → there t ≡ false → can_touch h t.0 t.1 ≡ false
  first_fault h t ts absent is = fault h t.0 t.1 (All-head (λ u. there u ≡ false → at h u.0 ≡ None) t ts absent is)

  pub all_touched : (ts : List (Place × Access)) (h : Holdings) → Sorted h → AreAbsent there h ts → touched_all h ts ≡ touched_all h (filter there ts)
  all_touched [] h sorted absent = refl
  all_touched (t ∷ ts) h sorted absent =
      by (there t) refl (all_touched ts (touch h t.0 t.1) (touch_sorted h t.0 t.1 sorted) (absent_still there h ts t.0 t.1 sorted (rest h t ts absent))) (all_touched ts h sorted (rest h t ts absent))
    where
      by : (b : Bool) → there t ≡ b → touched_all (touch h t.0 t.1) ts ≡ touched_all (touch h t.0 t.1) (filter there ts) → touched_all h ts ≡ touched_all h (filter there ts)
          → touched_all (touch h t.0 t.1) ts ≡ touched_all h (if b then t ∷ filter there ts else filter there ts)
      by true is made skipped = made
      by false is made skipped = ap (λ x. touched_all x ts) (touch_fault h t.0 t.1 (first_fault h t ts absent is)) ∙ skipped

  pub all_answered : (ts : List (Place × Access)) (h : Holdings) → Sorted h → AreAbsent there h ts → access_answers h ts ≡ with_faults (map there ts) (access_answers h (filter there ts))
  all_answered [] h sorted absent = refl
  all_answered (t ∷ ts) h sorted absent =
      by (there t) refl (all_answered ts (touch h t.0 t.1) (touch_sorted h t.0 t.1 sorted) (absent_still there h ts t.0 t.1 sorted (rest h t ts absent))) (all_answered ts h sorted (rest h t ts absent))
    where
      by : (b : Bool) → there t ≡ b → access_answers (touch h t.0 t.1) ts ≡ with_faults (map there ts) (access_answers (touch h t.0 t.1) (filter there ts))
          → access_answers h ts ≡ with_faults (map there ts) (access_answers h (filter there ts))
          → access_answers h (t ∷ ts) ≡ with_faults (b ∷ map there ts) (access_answers h (if b then t ∷ filter there ts else filter there ts))
      by true is made skipped = ap (λ bs. can_touch h t.0 t.1 ∷ bs) made
      by false is made skipped =
          let none = first_fault h t ts absent is in
          (λ i. none i ∷ access_answers (touch_fault h t.0 t.1 none i) ts) ∙ ap (λ bs. false ∷ bs) skipped

-- ---- what words and trees hold

module _ (s : Shards) (trees : List Shape) (sound : AreSound s trees) (ts : List (Place × Access)) (within : All (λ t. IsWithin (limits_in s trees) t.0) ts) where
  sorted_now : Sorted (holdings_in s trees)
  sorted_now = (lawful_parts (holdings_in s trees) sound.kept.lawful).sorted

  absent_now : AreAbsent (is_there s) (holdings_in s trees) ts
  absent_now k d less away =
      let p = (get_or ts k d).0 in
      absent_within (limits_in s trees) s trees p (within k d less) (absent_unless s p (λ has. cc (away, lt-ltb (index_of s p) (word_count s) has)))

  pub some_touched : touched_all (holdings_in s trees) (filter (is_there s) ts) ≡ touched_all (holdings_in s trees) ts
  some_touched = sym (all_touched (is_there s) ts (holdings_in s trees) sorted_now absent_now)

  pub some_answered : with_faults (map (is_there s) ts) (access_answers (holdings_in s trees) (filter (is_there s) ts)) ≡ access_answers (holdings_in s trees) ts
  some_answered = sym (all_answered (is_there s) ts (holdings_in s trees) sorted_now absent_now)
