-- Notes from which the pages are taken that were held neither before a call nor after it tell what it changed.
use Rattle.std.proofs.Common.{◌≡◌, ℕ, zero, suc, ◌+◌, ◌<◌, true, false, Bool, cond, ◌||◌, List, [], ◌∷◌, ◌++◌, filter, length, take, get_or, Option, Some, None, is_some, refl, sym, ap, ◌∙◌, subst, arith, ◌⊎◌, inl, inr, if◌then◌else◌}
use Rattle.std.specs.Prelude.{IsTrue}
use Rattle.std.specs.List.{All, list_all, list_any}
use Rattle.std.specs.Option.{option_map}
use Rattle.std.proofs.lemmas.Bool.{and_parts, or_right}
use Rattle.std.proofs.lemmas.List.{take_more}
use Rattle.std.proofs.lemmas.List.Elements.{filter-append}
use Rattle.space.proofs.Places.{same_is, same_self}
use Rattle.space.specs.Place.{same_place}
use Rattle.space.specs.declared.place.Place.{Place}
use Rattle.model.specs.Definitions.Changes.{AreChanged, entry_for, tables_of}
use Rattle.model.specs.Definitions.Holdings.{Held, Holdings, PlaceSet, at, is_held}
use Rattle.holdings.specs.Contents.{Contents, IsConsistent}
use Rattle.holdings.specs.Noting.{first_note, AreNoted, NotesFollow}
use Rattle.holdings.specs.Places.{IsWithin}
use Rattle.holdings.specs.NoteContents.{NoteContent}
use Rattle.holdings.specs.declared.notes.Notes.{Notes}
use Rattle.holdings.proofs.Contents.Listing.{listed_within}
use Rattle.mapdb.specs.Noted.{is_told, noted_places, NotesChange, NotesTell, Tells}

-- ---- places in lists

-- what holds of all places among some
all_among : (P : Place → Type 0) (xs : List Place) → ((p : Place) → list_any (same_place p) xs ≡ true → P p) → All P xs
all_among P xs each i d within = each (get_or xs i d) (among xs i d within)
  where
    among : (xs : List Place) (i : ℕ) (d : Place) → i < length xs → list_any (same_place (get_or xs i d)) xs ≡ true
    among [] i d within = absurd (omega (arith, within))
    among (x ∷ xs) zero d within = ap (λ b. b || list_any (same_place x) xs) (same_self x)
    among (x ∷ xs) (suc i) d within = or_right (same_place (get_or xs i d) x) (list_any (same_place (get_or xs i d)) xs) (among xs i d (omega (arith, within)))

-- a page that no note names
not_noted : (p : Place) (ns : List NoteContent) → list_any (same_place p) (noted_places ns) ≡ false → first_note ns p ≡ None
not_noted p [] none = refl
not_noted p (n ∷ ns) none = by (same_place p n.place) (not_noted p ns) none
  where
    by : (b : Bool) → (list_any (same_place p) (noted_places ns) ≡ false → first_note ns p ≡ None) → (b || list_any (same_place p) (noted_places ns)) ≡ false → (if b then Some n.was_held else first_note ns p) ≡ None
    by true rest none = absurd (cc none)
    by false rest none = rest none

-- what is not held has no entry
unheld_same : (old new : Holdings) (p : Place) → is_held old p ≡ false → is_held new p ≡ false → tables_of new p ≡ tables_of old p
unheld_same old new p no_old no_new = ap (option_map entry_for) (none (at new p) no_new ∙ sym (none (at old p) no_old))
  where
    none : (o : Option Held) → is_some o ≡ false → o ≡ None
    none None is = refl
    none (Some m) is = absurd (cc is)

-- ---- what is to be told

module _ (now : Holdings) (list : List NoteContent) where
  -- whether a page is to be told
  abbrev told : PlaceSet
  told p = is_told (first_note list p) (is_held now p)

  -- notes of pages that are to be told, with each of them that was noted
  changed_by : (new : List NoteContent) → ((p : Place) → list_any (same_place p) (noted_places new) ≡ false → (first_note list p ≡ None) ⊎ (told p ≡ false)) → ((p : Place) → list_any (same_place p) (noted_places new) ≡ true → told p ≡ true) → Tells now list new
  changed_by new rest those start noted = record {
    others = λ p none. same p (rest p none);
    held = all_among (λ p. IsTrue (is_held start p || is_held now p)) (noted_places new) (λ p there. either p (first_note list p) refl (those p there));
  }
    where
      same : (p : Place) → (first_note list p ≡ None) ⊎ (told p ≡ false) → tables_of now p ≡ tables_of start p
      same p (inl none) = noted.others p none
      same p (inr untold) = by (first_note list p) refl untold
        where
          by : (o : Option Bool) → first_note list p ≡ o → is_told o (is_held now p) ≡ false → tables_of now p ≡ tables_of start p
          by None is not_told = noted.others p is
          by (Some true) is not_told = absurd (cc not_told)
          by (Some false) is not_told = unheld_same start now p (noted.held p false is) not_told

      either : (p : Place) (o : Option Bool) → first_note list p ≡ o → is_told (first_note list p) (is_held now p) ≡ true → IsTrue (is_held start p || is_held now p)
      either p None is so = or_right (is_held start p) (is_held now p) (sym (ap (λ o. is_told o (is_held now p)) is) ∙ so)
      either p (Some true) is so = ap (λ b. b || is_held now p) (noted.held p true is)
      either p (Some false) is so = or_right (is_held start p) (is_held now p) (sym (ap (λ o. is_told o (is_held now p)) is) ∙ so)

-- each page was held when it was noted, or is held now
first_told : (now : Holdings) (p : Place) (ns : List NoteContent) → list_all (λ n. is_told (Some n.was_held) (is_held now n.place)) ns ≡ true → list_any (same_place p) (noted_places ns) ≡ true → is_told (first_note ns p) (is_held now p) ≡ true
first_told now p [] all there = absurd (cc there)
first_told now p (n ∷ ns) all there =
    let parts = and_parts (is_told (Some n.was_held) (is_held now n.place)) (list_all (λ n. is_told (Some n.was_held) (is_held now n.place)) ns) all in
    by (same_place p n.place) refl parts.0 there (first_told now p ns parts.1)
  where
    by : (b : Bool) → same_place p n.place ≡ b → is_told (Some n.was_held) (is_held now n.place) ≡ true → (b || list_any (same_place p) (noted_places ns)) ≡ true → (list_any (same_place p) (noted_places ns) ≡ true → is_told (first_note ns p) (is_held now p) ≡ true)
        → is_told (if b then Some n.was_held else first_note ns p) (is_held now p) ≡ true
    by true same here there rest = ap (λ q. is_told (Some n.was_held) (is_held now q)) (same_is p n.place same) ∙ here
    by false apart here there rest = rest there

pub told_as_is : (now : Holdings) (list : List NoteContent) → list_all (λ n. is_told (Some n.was_held) (is_held now n.place)) list ≡ true → Tells now list list
told_as_is now list all = changed_by now list list (λ p none. inl (not_noted p list none)) (λ p there. first_told now p list all there)

-- notes of some pages, all of them
module _ (set : PlaceSet) where
  all_kept : (p : Place) → set p ≡ true → (ns : List NoteContent) → list_any (same_place p) (noted_places (filter (λ n. set n.place) ns)) ≡ list_any (same_place p) (noted_places ns)
  all_kept p is [] = refl
  all_kept p is (n ∷ ns) = by (same_place p n.place) refl (set n.place) refl (all_kept p is ns)
    where
      by : (b : Bool) → same_place p n.place ≡ b → (k : Bool) → set n.place ≡ k → list_any (same_place p) (noted_places (filter (λ n. set n.place) ns)) ≡ list_any (same_place p) (noted_places ns)
          → list_any (same_place p) (noted_places (cond k (n ∷ filter (λ n. set n.place) ns) (filter (λ n. set n.place) ns))) ≡ (b || list_any (same_place p) (noted_places ns))
      by b at true kept rest = (λ i. at i || rest i)
      by false apart false dropped rest = rest
      by true same false dropped rest = absurd (cc (dropped, is, ap set (same_is p n.place same)))

  only_kept : (p : Place) (ns : List NoteContent) → list_any (same_place p) (noted_places (filter (λ n. set n.place) ns)) ≡ true → set p ≡ true
  only_kept p [] there = absurd (cc there)
  only_kept p (n ∷ ns) there = by (set n.place) refl there (only_kept p ns)
    where
      by : (k : Bool) → set n.place ≡ k → list_any (same_place p) (noted_places (cond k (n ∷ filter (λ n. set n.place) ns) (filter (λ n. set n.place) ns))) ≡ true → (list_any (same_place p) (noted_places (filter (λ n. set n.place) ns)) ≡ true → set p ≡ true) → set p ≡ true
      by false dropped there rest = rest there
      by true kept there rest = here (same_place p n.place) refl there
        where
          here : (b : Bool) → same_place p n.place ≡ b → (b || list_any (same_place p) (noted_places (filter (λ n. set n.place) ns))) ≡ true → set p ≡ true
          here true same there = ap set (same_is p n.place same) ∙ kept
          here false apart there = rest there

-- the others are taken out
pub told_filtered : (now : Holdings) (list : List NoteContent) → Tells now list (filter (λ n. is_told (first_note list n.place) (is_held now n.place)) list)
told_filtered now list =
    changed_by now list (filter (λ n. told now list n.place) list) (λ p none. unnoted p none (told now list p) refl) (λ p there. only_kept (told now list) p list there)
  where
    unnoted : (p : Place) → list_any (same_place p) (noted_places (filter (λ n. told now list n.place) list)) ≡ false → (b : Bool) → told now list p ≡ b → (first_note list p ≡ None) ⊎ (told now list p ≡ false)
    unnoted p none true is = inl (not_noted p list (sym (all_kept (told now list) p is list) ∙ none))
    unnoted p none false is = inr is

-- ---- steps of loops

pub filter_yes : {X : Type 0} (f : X → Bool) (xs : List X) (i : ℕ) (d : X) → i < length xs → f (get_or xs i d) ≡ true → filter f (take (i + 1) xs) ≡ filter f (take i xs) ++ get_or xs i d ∷ []
filter_yes f xs i d within is =
    ap (filter f) (take_more xs i d within) ∙ filter-append f (take i xs) (get_or xs i d ∷ []) ∙ ap (λ b. filter f (take i xs) ++ cond b (get_or xs i d ∷ []) []) is

pub filter_no : {X : Type 0} (f : X → Bool) (xs : List X) (i : ℕ) (d : X) → i < length xs → f (get_or xs i d) ≡ false → filter f (take (i + 1) xs) ≡ filter f (take i xs)
filter_no {X = X} f xs i d within is =
    ap (filter f) (take_more xs i d within) ∙ filter-append f (take i xs) (get_or xs i d ∷ []) ∙ ap (λ b. filter f (take i xs) ++ cond b (get_or xs i d ∷ []) []) is ∙ nothing (filter f (take i xs))
  where
    nothing : (ys : List X) → ys ++ [] ≡ ys
    nothing [] = refl
    nothing (y ∷ ys) = ap (◌∷◌ y) (nothing ys)

-- ---- no space

pub outside_unheld : (c : Contents) → IsConsistent c → (p : Place) → (IsWithin c.limits p → ⊥) → is_held c.holdings p ≡ false
outside_unheld c consistent p outside = by (at c.holdings p) refl
  where
    by : (o : Option Held) → at c.holdings p ≡ o → is_some o ≡ false
    by None none = refl
    by (Some m) some = absurd (outside (listed_within (at c.holdings) c.limits p m (sym (ap (λ h. at h p) consistent.listed) ∙ some)).0)

-- ---- calls

-- phases, and then the notes that tell are kept
pub change_of : (old new : Holdings) (n m k : Notes) → NotesFollow old new n m → k.asked ≡ m.asked → Tells new m.list.items k.list.items → NotesChange old new n k
change_of old new n m k follow same tells = record { asked = same ∙ follow.asked; changed = λ is start noted. tells start (follow.noted is start noted) }

-- before any note
nothing_noted : (h : Holdings) (ns : List NoteContent) → ns ≡ [] → AreNoted h h ns
nothing_noted h ns none = record { others = λ p is. refl; held = λ p b is. absurd (cc (ap (λ xs. first_note xs p) none, is)) }

-- notes that were forgotten before a call tell what it changed
pub change_tells : (old new : Holdings) (before now after : Notes) → now.asked ≡ before.asked → now.list.items ≡ [] → NotesChange old new now after → NotesTell old new before after
change_tells old new before now after same none change = record { asked = change.asked ∙ same; told = λ is. change.changed (same ∙ is) old (nothing_noted old now.list.items none) }

-- a call that changed no table
pub none_tell : (old new : Holdings) (before after : Notes) → after.asked ≡ before.asked → after.list.items ≡ [] → ((p : Place) → tables_of new p ≡ tables_of old p) → NotesTell old new before after
none_tell old new before after same none tables = record { asked = same; told = λ is. subst (λ (ns : List NoteContent). AreChanged old new (noted_places ns)) (sym none) (record { others = λ p there. tables p; held = λ i d within. absurd (omega (arith, within)) }) }
