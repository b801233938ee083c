-- Changes are of exactly the pages whose table entries differ, and tables that follow them are those of what is held.
use Rattle.std.proofs.Common.{◌≡◌, true, false, Bool, ◌&&◌, ◌||◌, ◌==◌, not, [], ◌∷◌, ◌++◌, List, map, filter, Option, Some, None, option_map, refl, sym, ap, ◌∙◌, subst, arith, ◌⊎◌, inl, inr, if◌then◌else◌}
use Rattle.std.specs.Option.{is_some}
use Rattle.std.specs.FinMap.Entries.{below_all, is_sorted}
use Rattle.std.specs.List.{All, AllPairs, list_any}
use Rattle.std.proofs.Math.Bool.{and-true, and-false}
use Rattle.std.proofs.lemmas.Bool.{and_parts, and_from, eqb-true, eq-eqb, or_left, or_right}
use Rattle.std.proofs.lemmas.List.Folds.{list_any-append}
use Rattle.std.proofs.lemmas.List.Elements.{All-nil, All-cons, All-map}
use Rattle.std.proofs.lemmas.List.Kept.{AllPairs-cons}
use Rattle.std.proofs.lemmas.Map.Views.{any-filter_same}
use Rattle.fpage.specs.Rights.{has, number, of_bits}
use Rattle.fpage.specs.declared.rights.Rights.{Rights}
use Rattle.space.specs.declared.place.Place.{Place}
use Rattle.space.specs.Place.{place_cmp, same_place}
use Rattle.model.specs.Definitions.Holdings.{Held, Holdings, PlaceSet, at, is_held, places, each}
use Rattle.model.specs.Definitions.Touch.{can_touch, marked}
use Rattle.model.specs.Definitions.Strip.{strip}
use Rattle.model.specs.Definitions.Answers.{answer}
use Rattle.model.specs.Definitions.Replay.{start}
use Rattle.model.specs.Definitions.Changes.{TableEntry, Tables, entry_for, tables_of, is_same_entry, is_changed, change_to, held_in_either, changes, set_entry, apply, AreChanged}
use Rattle.model.specs.Laws.ChangeLaws.{AreTablesOf, ChangesSay, ChangesTellEachOnce, ChangesMissNoPage, ChangesAreEnough, AccessChangesNoTable, TablesFollow, TablesFollowFromStart, RevokedIsInNoTable}
use Rattle.space.proofs.Places.{same_is, same_self, same_or_apart, apart_back}
use Rattle.model.proofs.Lookups.{Sorted, below_absent, changed, at_each}
use Rattle.model.proofs.LawfulParts.{lawful_parts}
use Rattle.model.proofs.Isolations.{isolates}

-- ---- the test of entries

-- the number of a set spells it
spelt : (r w x : Bool) → of_bits (number (record { read = r; write = w; execute = x })) ≡ record { read = r; write = w; execute = x }
spelt true true true = refl
spelt true true false = refl
spelt true false true = refl
spelt true false false = refl
spelt false true true = refl
spelt false true false = refl
spelt false false true = refl
spelt false false false = refl

same_number : (a b : Rights) → number a ≡ number b → a ≡ b
same_number a b same = sym (spelt a.read a.write a.execute) ∙ ap of_bits same ∙ spelt b.read b.write b.execute

entries_same : (o n : Option TableEntry) → is_same_entry o n ≡ true → o ≡ n
entries_same None None same = refl
entries_same None (Some b) same = absurd (cc same)
entries_same (Some a) None same = absurd (cc same)
entries_same (Some a) (Some b) same =
    let parts = and_parts (a.frame == b.frame) (number a.rights == number b.rights) same in
    let frame : a.frame ≡ b.frame = eqb-true a.frame b.frame parts.0 in
    let rights : a.rights ≡ b.rights = same_number a.rights b.rights (eqb-true (number a.rights) (number b.rights) parts.1) in
    λ i. Some (record { frame = frame i; rights = rights i })

same_itself : (o : Option TableEntry) → is_same_entry o o ≡ true
same_itself None = refl
same_itself (Some a) = and_from _ _ (eq-eqb a.frame a.frame refl) (eq-eqb (number a.rights) (number a.rights) refl)

module _ (old new : Holdings) where
  differ_from : (p : Place) → is_changed old new p ≡ true → tables_of new p ≡ tables_of old p → ⊥
  differ_from p is same = cc (is, ap not (subst (λ o. is_same_entry (tables_of old p) o ≡ true) (sym same) (same_itself (tables_of old p))))

  same_from : (p : Place) → is_changed old new p ≡ false → tables_of new p ≡ tables_of old p
  same_from p is = sym (entries_same (tables_of old p) (tables_of new p) (not_false _ is))
    where
      not_false : (b : Bool) → not b ≡ false → b ≡ true
      not_false true none = refl
      not_false false none = absurd (cc none)

  differ_changed : (p : Place) → (tables_of new p ≡ tables_of old p → ⊥) → is_changed old new p ≡ true
  differ_changed p differ = by (is_changed old new p) refl
    where
      by : (b : Bool) → is_changed old new p ≡ b → b ≡ true
      by true is = refl
      by false is = absurd (differ (same_from p is))

-- ---- which pages are listed

-- the places of holdings are those that are held
listed_held : (p : Place) (h : Holdings) → list_any (same_place p) (places h) ≡ is_held h p
listed_held p [] = refl
listed_held p (e ∷ h) = by (same_place p e.0) refl (listed_held p h)
  where
    by : (b : Bool) → same_place p e.0 ≡ b → list_any (same_place p) (places h) ≡ is_held h p → list_any (same_place p) (places (e ∷ h)) ≡ is_held (e ∷ h) p
    by true is rest = rw is refl
    by false is rest = rw is rest

listed_filter : (p : Place) (set : PlaceSet) (ps : List Place) → list_any (same_place p) (filter set ps) ≡ (set p && list_any (same_place p) ps)
listed_filter p set ps = any-filter_same (same_place p) set (set p) (λ k same. sym (ap set (same_is p k same))) ps

abbrev changed_places : Holdings → Holdings → List Place
changed_places old new = filter (is_changed old new) (held_in_either old new)

-- a page is listed exactly where its entry differs
listed : (old new : Holdings) (p : Place) → list_any (same_place p) (changed_places old new) ≡ is_changed old new p
listed old new p =
    listed_filter p (is_changed old new) (held_in_either old new) ∙ ap (λ b. is_changed old new p && b) either ∙ by (at old p) (at new p)
  where
    either : list_any (same_place p) (held_in_either old new) ≡ (is_held old p || (not (is_held old p) && is_held new p))
    either =
        list_any-append (same_place p) (places old) (filter (λ q. not (is_held old q)) (places new))
        ∙ ap (λ b. b || list_any (same_place p) (filter (λ q. not (is_held old q)) (places new))) (listed_held p old)
        ∙ ap (λ b. is_held old p || b) (listed_filter p (λ q. not (is_held old q)) (places new) ∙ ap (λ b. not (is_held old p) && b) (listed_held p new))

    by : (o n : Option Held)
        → (not (is_same_entry (option_map entry_for o) (option_map entry_for n)) && (is_some o || (not (is_some o) && is_some n)))
        ≡ not (is_same_entry (option_map entry_for o) (option_map entry_for n))
    by None None = refl
    by None (Some n) = refl
    by (Some o) None = refl
    by (Some o) (Some n) = and-true _

-- what is true of each page that is listed
all_listed : (P : Place → Type 0) (ps : List Place) → ((p : Place) → list_any (same_place p) ps ≡ true → P p) → All P ps
all_listed P [] each_one = All-nil P
all_listed P (p ∷ ps) each_one =
    All-cons P p ps (each_one p (or_left _ _ (same_self p))) (all_listed P ps (λ q among. each_one q (or_right _ _ among)))

-- a page whose entry differs was held, or is held
all_either : (old new : Holdings) → All (λ p. (is_held old p || is_held new p) ≡ true) (changed_places old new)
all_either old new = all_listed _ (changed_places old new) (λ p among. by (at old p) (at new p) (sym (listed old new p) ∙ among))
  where
    by : (o n : Option Held) → not (is_same_entry (option_map entry_for o) (option_map entry_for n)) ≡ true → (is_some o || is_some n) ≡ true
    by None None differ = absurd (cc differ)
    by None (Some n) differ = refl
    by (Some o) n differ = refl

-- ---- changes

places_told : (new : Holdings) (ps : List Place) → map (λ c. c.place) (map (change_to new) ps) ≡ ps
places_told new [] = refl
places_told new (p ∷ ps) = ap (λ x. p ∷ x) (places_told new ps)

listed_told : (new : Holdings) (p : Place) (ps : List Place) → list_any (λ c. same_place p c.place) (map (change_to new) ps) ≡ list_any (same_place p) ps
listed_told new p [] = refl
listed_told new p (q ∷ ps) = ap (λ b. same_place p q || b) (listed_told new p ps)

all_told : (new : Holdings) (ps : List Place) → All (λ c. c.now ≡ tables_of new c.place) (map (change_to new) ps)
all_told new [] = All-nil _
all_told new (p ∷ ps) = All-cons (λ c. c.now ≡ tables_of new c.place) (change_to new p) (map (change_to new) ps) refl (all_told new ps)

pub changes_say : ChangesSay
changes_say old new = record {
  differ = λ p. (
    (λ among. differ_from old new p (sym (whole p) ∙ among)),
    (λ differ. whole p ∙ differ_changed old new p differ),
  );
  now = all_told new (changed_places old new);
  held = All-map (λ c. (is_held old c.place || is_held new c.place) ≡ true) (change_to new) (changed_places old new) (all_either old new);
}
  where
    whole : (p : Place) → list_any (λ c. same_place p c.place) (changes old new) ≡ is_changed old new p
    whole p = listed_told new p (changed_places old new) ∙ listed old new p

pub changes_miss_no_page : ChangesMissNoPage
changes_miss_no_page old new =
    subst (λ ps. AreChanged old new ps) (sym (places_told new (changed_places old new)))
    (record {
      others = λ p none. same_from old new p (sym (listed old new p) ∙ none);
      held = all_either old new;
    })

-- ---- each page once

abbrev Apart : List Place → Type 0
Apart [] = Unit
Apart (p ∷ ps) = (list_any (same_place p) ps ≡ false) × Apart ps

held_apart : (h : Holdings) → Sorted h → Apart (places h)
held_apart [] sorted = tt
held_apart (e ∷ h) sorted =
    let parts = and_parts (below_all place_cmp e.0 h) (is_sorted place_cmp h) sorted in
    (listed_held e.0 h ∙ ap is_some (below_absent e.0 h parts.0), held_apart h parts.1)

filter_apart : (set : PlaceSet) (ps : List Place) → Apart ps → Apart (filter set ps)
filter_apart set [] apart = tt
filter_apart set (p ∷ ps) apart = by (set p) refl (filter_apart set ps apart.1)
  where
    by : (b : Bool) → set p ≡ b → Apart (filter set ps) → Apart (filter set (p ∷ ps))
    by true is rest = rw is (listed_filter p set ps ∙ ap (λ b. set p && b) apart.0 ∙ and-false (set p), rest)
    by false is rest = rw is rest

append_apart : (ps qs : List Place) → Apart ps → Apart qs → ((p : Place) → list_any (same_place p) ps ≡ true → list_any (same_place p) qs ≡ false) → Apart (ps ++ qs)
append_apart [] qs apart more differ = more
append_apart (p ∷ ps) qs apart more differ = (
  list_any-append (same_place p) ps qs ∙ none _ _ apart.0 (differ p (or_left _ _ (same_self p))),
  append_apart ps qs apart.1 more (λ q among. differ q (or_right _ _ among)),
)
  where
    none : (a b : Bool) → a ≡ false → b ≡ false → (a || b) ≡ false
    none a b first next = rw (first, next) refl

either_apart : (old new : Holdings) → Sorted old → Sorted new → Apart (held_in_either old new)
either_apart old new sorted_old sorted_new =
    append_apart (places old) (filter (λ q. not (is_held old q)) (places new)) (held_apart old sorted_old)
    (filter_apart (λ q. not (is_held old q)) (places new) (held_apart new sorted_new)) (λ p among.
    listed_filter p (λ q. not (is_held old q)) (places new) ∙ not_out (is_held old p) (list_any (same_place p) (places new)) (sym (listed_held p old) ∙ among))
  where
    not_out : (a b : Bool) → a ≡ true → (not a && b) ≡ false
    not_out a b is = rw is refl

apart_from : (new : Holdings) (p : Place) (ps : List Place) → list_any (same_place p) ps ≡ false → All (λ c. p ≡ c.place → ⊥) (map (change_to new) ps)
apart_from new p [] none = All-nil _
apart_from new p (q ∷ ps) none =
    All-cons (λ c. p ≡ c.place → ⊥) (change_to new q) (map (change_to new) ps) (λ same. cc (first, same_self p)) (apart_from new p ps (or_false_right (same_place p q) _ none))
  where
    or_false_left : (a b : Bool) → (a || b) ≡ false → a ≡ false
    or_false_left a b is = grind (arith, is)

    or_false_right : (a b : Bool) → (a || b) ≡ false → b ≡ false
    or_false_right a b is = grind (arith, is)

    first : same_place p q ≡ false
    first = or_false_left (same_place p q) (list_any (same_place p) ps) none

told_apart : (new : Holdings) (ps : List Place) → Apart ps → AllPairs (λ c d. c.place ≡ d.place → ⊥) (map (change_to new) ps)
told_apart new [] apart = λ i j d less below. absurd (omega arith)
told_apart new (p ∷ ps) apart =
    AllPairs-cons (λ c d. c.place ≡ d.place → ⊥) (change_to new p) (map (change_to new) ps) (apart_from new p ps apart.0) (told_apart new ps apart.1)

pub changes_tell_each_once : ChangesTellEachOnce
changes_tell_each_once old new lawful_old lawful_new =
    told_apart new (changed_places old new)
    (filter_apart (is_changed old new) (held_in_either old new) (either_apart old new (lawful_parts old lawful_old).sorted (lawful_parts new lawful_new).sorted))

-- ---- tables

-- what is set last stays: the page's entry where it is among the pages, else what was there
applied : (new : Holdings) (ps : List Place) (t : Tables) (p : Place)
    → apply (map (change_to new) ps) t p ≡ (if list_any (same_place p) ps then tables_of new p else t p)
applied new [] t p = refl
applied new (q ∷ ps) t p = applied new ps (set_entry (change_to new q) t) p ∙ by (same_or_apart p q)
  where
    by : (p ≡ q) ⊎ (same_place p q ≡ false)
        → (if list_any (same_place p) ps then tables_of new p else set_entry (change_to new q) t p)
        ≡ (if list_any (same_place p) (q ∷ ps) then tables_of new p else t p)
    by (inl same) = rw (same, same_self q) (either (list_any (same_place q) ps))
      where
        either : (b : Bool) → (if b then tables_of new q else tables_of new q) ≡ tables_of new q
        either true = refl
        either false = refl
    by (inr apart) = rw (apart, apart_back p q apart) refl

pub changes_are_enough : ChangesAreEnough
changes_are_enough old new pages enough t is p = applied new pages t p ∙ by (list_any (same_place p) pages) refl
  where
    by : (b : Bool) → list_any (same_place p) pages ≡ b → (if b then tables_of new p else t p) ≡ tables_of new p
    by true among = refl
    by false none = is p ∙ sym (enough.others p none)

-- the changes themselves
made : (old new : Holdings) (t : Tables) → AreTablesOf old t → AreTablesOf new (apply (changes old new) t)
made old new t is p = applied new (changed_places old new) t p ∙ by (list_any (same_place p) (changed_places old new)) refl
  where
    by : (b : Bool) → list_any (same_place p) (changed_places old new) ≡ b → (if b then tables_of new p else t p) ≡ tables_of new p
    by true among = refl
    by false none = is p ∙ sym (same_from old new p (sym (listed old new p) ∙ none))

pub tables_follow : TablesFollow
tables_follow limits h [] t is = is
tables_follow limits h (r ∷ rs) t is =
    tables_follow limits (answer limits h r).left rs (apply (changes h (answer limits h r).left) t) (made h (answer limits h r).left t is)

pub tables_follow_from_start : TablesFollowFromStart
tables_follow_from_start limits requests = tables_follow limits (start limits) requests (tables_of (start limits)) (λ p. refl)

-- an access marks the status alone
pub access_changes_no_table : AccessChangesNoTable
access_changes_no_table limits h lawful p a q = by (can_touch h p a)
  where
    same_entry : (b : Bool) (m : Held) → entry_for (if b then marked a m else m) ≡ entry_for m
    same_entry true m = refl
    same_entry false m = refl

    left : (m : Option Held) → option_map entry_for (changed (λ q m. Some (if same_place p q then marked a m else m)) q m) ≡ option_map entry_for m
    left None = refl
    left (Some m) = ap Some (same_entry (same_place p q) m)

    by : (b : Bool) → tables_of (if b then each (λ q m. Some (if same_place p q then marked a m else m)) h else h) q ≡ tables_of h q
    by true = ap (option_map entry_for) (at_each (λ q m. Some (if same_place p q then marked a m else m)) h q (lawful_parts h lawful).sorted) ∙ left (at h q)
    by false = refl

pub revoked_is_in_no_table : RevokedIsInNoTable
revoked_is_in_no_table h lawful set a f t is p e loses found r taken = by (at left p) refl (sym (made h left t is p) ∙ found)
  where
    left : Holdings
    left = strip h set a f

    by : (m : Option Held) → at left p ≡ m → option_map entry_for m ≡ Some e → has e.rights r ≡ false
    by None none entry = absurd (cc entry)
    by (Some m) held entry =
        let same : entry_for m ≡ e = cc entry in
        subst (λ x. has x.rights r ≡ false) same ((isolates h (lawful_parts h lawful) set a f).revoked p m loses held r taken)
