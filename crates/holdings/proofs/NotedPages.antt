-- Notes follow a phase that changes nothing but what was noted.
use Rattle.std.proofs.Common.{◌≡◌, ℕ, zero, suc, ◌+◌, ◌-◌, ◌<◌, ◌≤◌, true, false, Bool, ◌&&◌, ◌||◌, not, if◌then◌else◌, List, [], ◌∷◌, ◌++◌, length, take, drop, get_or, Option, Some, None, is_some, refl, sym, ap, ◌∙◌, subst, arith, ◌⊎◌, inl, inr}
use Rattle.std.specs.List.{All, list_any}
use Rattle.std.specs.Option.{option_map, option_map_or, option_or}
use Rattle.std.proofs.lemmas.List.{take_more, drop_more}
use Rattle.std.proofs.lemmas.Bool.{or_right, and_parts, and_from}
use Rattle.fpage.specs.Rights.{is_empty, meet, without}
use Rattle.fpage.specs.declared.rights.Rights.{Rights}
use Rattle.space.specs.declared.place.Place.{Place}
use Rattle.space.specs.declared.place.Entry.{Entry}
use Rattle.space.specs.declared.shards.Shards.{Shards}
use Rattle.space.specs.Place.{same_place}
use Rattle.space.proofs.Places.{same_is, same_or_apart}
use Rattle.space.specs.Shards.{IsPlace, entry_at}
use Rattle.maptree.specs.Origins.{Origins, Shape, place_at}
use Rattle.model.specs.Definitions.Holdings.{Held, Holdings, PlaceSet, only, at, is_held}
use Rattle.model.specs.Definitions.Derived.{is_below, is_under}
use Rattle.model.specs.Definitions.Strip.{is_narrowed, left_of, rights_left, strip, stripped}
use Rattle.model.specs.Definitions.Changes.{entry_for, tables_of}
use Rattle.model.proofs.LawfulParts.{IsLawful, lawful_parts}
use Rattle.model.proofs.Lookups.{at_each, changed}
use Rattle.model.proofs.StripAt.{stripping}
use Rattle.model.proofs.Narrowings.{either, not_narrowed, under-either}
use Rattle.model.proofs.Chains.{below_unheld, below_empty, under_self}
use Rattle.holdings.specs.NoteContents.{NoteContent}
use Rattle.holdings.specs.declared.notes.Notes.{Notes}
use Rattle.holdings.specs.Noting.{first_note, AreNoted, NotesFollow}
use Rattle.holdings.specs.Inner.Held.{links_in, is_listed, has_frame, limits_in, holdings_in}
use Rattle.holdings.specs.Inner.Sound.{AreSound}
use Rattle.holdings.specs.Inner.Notes.{NotesAdd, AreAdded, noted_now, IsNotedIf, IsStripNoted, IsRunNoted, in_range, all_held, loses_at, loses_in, losing_from}
use Rattle.holdings.specs.Places.{IsWithin, any_of}
use Rattle.holdings.proofs.Contents.Holders.{absent_within, present_within}
use Rattle.holdings.proofs.Contents.Listing.{within_from_place}
use Rattle.holdings.proofs.Stripping.Frames.{loose_from}
use Rattle.holdings.proofs.Stripping.Sequences.{any_more}
use Rattle.holdings.proofs.Stripping.Walks.{among_more}
use Rattle.holdings.proofs.Trees.Chains.{below_among, among_at, entry_held}
use Rattle.maptree.proofs.Listed.{listed_at}

-- ---- lists of notes

-- notes behind others
pub first_append : (xs ys : List NoteContent) (p : Place) → first_note (xs ++ ys) p ≡ option_or (first_note xs p) (first_note ys p)
first_append [] ys p = refl
first_append (n ∷ xs) ys p = by (same_place p n.place) (first_append xs ys p)
  where
    by : (b : Bool) → first_note (xs ++ ys) p ≡ option_or (first_note xs p) (first_note ys p) → (if b then Some n.was_held else first_note (xs ++ ys) p) ≡ option_or (if b then Some n.was_held else first_note xs p) (first_note ys p)
    by true rest = refl
    by false rest = rest

-- one note behind others
pub first_more : (xs : List NoteContent) (n : NoteContent) (p : Place) → first_note (xs ++ n ∷ []) p ≡ option_or (first_note xs p) (if same_place p n.place then Some n.was_held else None)
first_more xs n p = first_append xs (n ∷ []) p

-- three in a row
pub or_assoc : (a b c : Option Bool) → option_or (option_or a b) c ≡ option_or a (option_or b c)
or_assoc None b c = refl
or_assoc (Some x) b c = refl

-- what two sets say that are noted one after the other
pub now_either : (h : Holdings) (X Y : PlaceSet) (p : Place) → option_or (noted_now h X p) (noted_now h Y p) ≡ noted_now h (λ q. X q || Y q) p
now_either h X Y p = by (X p) (Y p)
  where
    by : (x y : Bool) → option_or (if x then Some (is_held h p) else None) (if y then Some (is_held h p) else None) ≡ (if x || y then Some (is_held h p) else None)
    by true y = refl
    by false y = refl

-- a set noted behind another
pub added_more : (h : Holdings) (X Y : PlaceSet) (old now new : List NoteContent) → AreAdded h X old now → AreAdded h Y now new → AreAdded h (λ q. X q || Y q) old new
added_more h X Y old now new first second p =
    second p ∙ ap (λ o. option_or o (noted_now h Y p)) (first p) ∙ or_assoc (first_note old p) (noted_now h X p) (noted_now h Y p) ∙ ap (option_or (first_note old p)) (now_either h X Y p)

-- nothing noted
pub none_added : (h : Holdings) (old : List NoteContent) → AreAdded h (λ q. false) old old
none_added h old p = by (first_note old p)
  where
    by : (o : Option Bool) → o ≡ option_or o None
    by None = refl
    by (Some b) = refl

-- sets of the same pages
pub added_same : (h : Holdings) (X Y : PlaceSet) (old new : List NoteContent) → ((p : Place) → X p ≡ Y p) → AreAdded h X old new → AreAdded h Y old new
added_same h X Y old new same added p = added p ∙ ap (λ b. option_or (first_note old p) (if b then Some (is_held h p) else None)) (same p)

-- one page noted
pub page_added : (h : Holdings) (p : Place) (b : Bool) → b ≡ is_held h p → (old new : List NoteContent) → new ≡ old ++ (record { place = p; was_held = b }) ∷ [] → AreAdded h (λ q. same_place q p) old new
page_added h p b is old new more q = ap (λ ns. first_note ns q) more ∙ first_more old (record { place = p; was_held = b }) q ∙ ap (option_or (first_note old q)) (by (same_place q p) refl)
  where
    by : (x : Bool) → same_place q p ≡ x → (if x then Some b else None) ≡ (if x then Some (is_held h q) else None)
    by true same = ap Some (is ∙ ap (is_held h) (sym (same_is q p same)))
    by false apart = refl

-- ---- a run

-- before its first place
pub run_begins : (os : Origins) (lose : PlaceSet) (a b : ℕ) → b ≤ a → (old : List NoteContent) → (q : Place) → first_note old q ≡ option_or (first_note old q) (all_held (λ r. in_range os a b r && lose r) q)
run_begins os lose a b least old q =
    let zero : b - a ≡ 0 = omega (arith, least) in
    nothing (first_note old q) ∙ ap (λ n. option_or (first_note old q) (if list_any (λ o. same_place q o.0) (take n (drop a os)) && lose q then Some true else None)) (sym zero)
  where
    nothing : (o : Option Bool) → o ≡ option_or o None
    nothing None = refl
    nothing (Some b) = refl

-- one place more, noted where it is to be
pub run_more : (os : Origins) (lose : PlaceSet) (a i : ℕ) (p d : Place) → a ≤ i → i < length os → p ≡ place_at os i d → (old now new : List NoteContent)
    → ((q : Place) → first_note new q ≡ option_or (first_note now q) (if same_place q p && lose p then Some true else None))
    → ((q : Place) → first_note now q ≡ option_or (first_note old q) (all_held (λ r. in_range os a i r && lose r) q))
    → (q : Place) → first_note new q ≡ option_or (first_note old q) (all_held (λ r. in_range os a (i + 1) r && lose r) q)
run_more os lose a i p d least within place old now new is so_far q =
    is q ∙ ap (λ o. option_or o (if same_place q p && lose p then Some true else None)) (so_far q)
    ∙ or_assoc (first_note old q) (all_held (λ r. in_range os a i r && lose r) q) (if same_place q p && lose p then Some true else None) ∙ ap (option_or (first_note old q)) (both (in_range os a i q) (same_place q p) refl)
    ∙ ap (λ b. option_or (first_note old q) (if b && lose q then Some true else None)) (ap (λ x. in_range os a i q || same_place q x) place ∙ sym (among_more os a i q d least within))
  where
    both : (x y : Bool) → same_place q p ≡ y → option_or (if x && lose q then Some true else None) (if y && lose p then Some true else None) ≡ (if (x || y) && lose q then Some true else None)
    both x false apart = none x (lose q)
      where
        none : (x l : Bool) → option_or (if x && l then Some true else None) None ≡ (if (x || false) && l then Some true else None)
        none true true = refl
        none true false = refl
        none false l = refl
    both x true same = subst (λ r. option_or (if x && lose q then Some true else None) (if lose r then Some true else None) ≡ (if (x || true) && lose q then Some true else None)) (same_is q p same) (here x (lose q))
      where
        here : (x l : Bool) → option_or (if x && l then Some true else None) (if l then Some true else None) ≡ (if (x || true) && l then Some true else None)
        here true true = refl
        here true false = refl
        here false true = refl
        here false false = refl

-- its first place, noted if it loses a right and is to
pub run_first : (os : Origins) (lose : PlaceSet) (f : Bool) (start : ℕ) (p d : Place) → start < length os → p ≡ place_at os start d → (old new : List NoteContent)
    → IsNotedIf (f && lose p) p old new
    → (q : Place) → first_note new q ≡ option_or (first_note old q) (all_held (λ r. in_range os (losing_from f start) (start + 1) r && lose r) q)
run_first os lose true start p d within place old new is q = run_more os lose start start p d (omega arith) within place old old new is (run_begins os lose start start (omega arith) old) q
run_first os lose false start p d within place old new is q = is q ∙ ap (option_or (first_note old q)) (never (same_place q p)) ∙ none (first_note old q) ∙ run_begins os lose (start + 1) (start + 1) (omega arith) old q
  where
    never : (b : Bool) → (if b && false then Some true else None) ≡ None
    never true = refl
    never false = refl

    none : (o : Option Bool) → option_or o None ≡ o
    none None = refl
    none (Some b) = refl

-- its first place, and the others
range_first : (os : Origins) (a b : ℕ) → a < b → b ≤ length os → (p d : Place) → in_range os a b p ≡ (same_place p (place_at os a d) || in_range os (a + 1) b p)
range_first os a b some within p d =
    let one : b - a ≡ suc (b - (a + 1)) = omega (arith, some) in
    ap (λ n. list_any (λ o. same_place p o.0) (take n (drop a os))) one
    ∙ ap (λ xs. list_any (λ o. same_place p o.0) (take (suc (b - (a + 1))) xs)) (drop_more os a (d, None) (omega (arith, some, within)))
    ∙ ap (λ q. same_place p q || in_range os (a + 1) b p) (read os a (d, None) (omega (arith, some, within)))
  where
    read : (os : Origins) (k : ℕ) (d : Place × Option Place) → k < length os → (get_or os k d).0 ≡ place_at os k d.0
    read [] k d within = absurd (omega (arith, within))
    read (o ∷ os) zero d within = refl
    read (o ∷ os) (suc k) d within = read os k d (omega (arith, within))

-- ---- what follows

-- frame and rights tell whether a page is held
held_same : (g h : Holdings) (p : Place) → tables_of g p ≡ tables_of h p → is_held g p ≡ is_held h p
held_same g h p same = sym (seen (at g p)) ∙ ap is_some same ∙ seen (at h p)
  where
    seen : (o : Option Held) → is_some (option_map entry_for o) ≡ is_some o
    seen None = refl
    seen (Some m) = refl

-- phases one after another
pub follow_none : (h : Holdings) (n : Notes) → NotesFollow h h n n
follow_none h n = record { asked = refl; noted = λ is start noted. noted }

-- room changes nothing
pub follow_same : (h : Holdings) (n m : Notes) → m.asked ≡ n.asked → m.list.items ≡ n.list.items → NotesFollow h h n m
follow_same h n m asked list = record { asked = asked; noted = λ is start noted. subst (AreNoted start h) (sym list) noted }

pub follow_both : (a b c : Holdings) (n m k : Notes) → NotesFollow a b n m → NotesFollow b c m k → NotesFollow a c n k
follow_both a b c n m k first second = record { asked = second.asked ∙ first.asked; noted = λ is start noted. second.noted (first.asked ∙ is) start (first.noted is start noted) }

-- a set was noted, and nothing changed but pages of it
pub follow_set : (old new : Holdings) (set : PlaceSet) (before after : List NoteContent) → AreAdded old set before after → ((p : Place) → set p ≡ false → tables_of new p ≡ tables_of old p)
    → (start : Holdings) → AreNoted start old before → AreNoted start new after
follow_set old new set before after added same start noted = record {
  others = λ p none. unnoted p (first_note before p) refl (set p) refl (sym (added p) ∙ none);
  held = λ p b is. told p b (first_note before p) refl (set p) refl (sym (added p) ∙ is);
}
  where
    unnoted : (p : Place) (o : Option Bool) → first_note before p ≡ o → (x : Bool) → set p ≡ x → option_or (first_note before p) (if set p then Some (is_held old p) else None) ≡ None → tables_of new p ≡ tables_of start p
    unnoted p (Some b) was x in_set none = absurd (cc (was, none))
    unnoted p None was true in_set none = absurd (cc (was, in_set, none))
    unnoted p None was false in_set none = same p in_set ∙ noted.others p was

    told : (p : Place) (b : Bool) (o : Option Bool) → first_note before p ≡ o → (x : Bool) → set p ≡ x → option_or (first_note before p) (if set p then Some (is_held old p) else None) ≡ Some b → is_held start p ≡ b
    told p b (Some c) was x in_set is = noted.held p b (was ∙ sym (ap (λ o. option_or o (if set p then Some (is_held old p) else None)) was) ∙ is)
    told p b None was true in_set is = sym (held_same old start p (noted.others p was)) ∙ cc (was, in_set, is)
    told p b None was false in_set is = absurd (cc (was, in_set, is))

-- what has none of some rights keeps all without them
pub without_others : (a r : Rights) → not (is_empty (meet r a)) ≡ false → without r a ≡ r
without_others a r none = λ i. record { read = one r.read a.read (no_read r.read r.write r.execute a.read a.write a.execute none) i; write = one r.write a.write (no_write r.read r.write r.execute a.read a.write a.execute none) i; execute = one r.execute a.execute (no_execute r.read r.write r.execute a.read a.write a.execute none) i }
  where
    one : (x y : Bool) → (x && y) ≡ false → (x && not y) ≡ x
    one x y none = grind (arith, none)

    no_read : (x y z u v w : Bool) → not (not ((x && u) || (y && v) || (z && w))) ≡ false → (x && u) ≡ false
    no_read x y z u v w none = grind (arith, none)

    no_write : (x y z u v w : Bool) → not (not ((x && u) || (y && v) || (z && w))) ≡ false → (y && v) ≡ false
    no_write x y z u v w none = grind (arith, none)

    no_execute : (x y z u v w : Bool) → not (not ((x && u) || (y && v) || (z && w))) ≡ false → (z && w) ≡ false
    no_execute x y z u v w none = grind (arith, none)

-- a strip changes nothing but what it narrows
strip_outside : (h : Holdings) → IsLawful h → (set : PlaceSet) (a : Rights) (f : Bool) (p : Place) → is_narrowed h set f p ≡ false → tables_of (strip h set a f) p ≡ tables_of h p
strip_outside h l set a f p outside = ap (option_map entry_for) (at_each (stripping h set a f) h p l.sorted) ∙ by (at h p)
  where
    by : (o : Option Held) → option_map entry_for (changed (stripping h set a f) p o) ≡ option_map entry_for o
    by None = refl
    by (Some m) = rw outside refl

-- nor does a page lose what it has not
pub strip_kept : (h : Holdings) → IsLawful h → (set : PlaceSet) (a : Rights) (f : Bool) (p : Place) → loses_at h a p ≡ false → tables_of (strip h set a f) p ≡ tables_of h p
strip_kept h l set a f p none = ap (option_map entry_for) (at_each (stripping h set a f) h p l.sorted) ∙ by (at h p) refl
  where
    by : (o : Option Held) → at h p ≡ o → option_map entry_for (changed (stripping h set a f) p o) ≡ option_map entry_for o
    by None is = refl
    by (Some m) is = stays (is_narrowed h set f p)
      where
        kept : without m.rights a ≡ m.rights
        kept = without_others a m.rights (ap (λ o. option_map_or (λ (k : Held). not (is_empty (meet k.rights a))) o false) (sym is) ∙ none)

        stays : (b : Bool) → option_map entry_for (left_of b (record (stripped h set a f p m) { rights = rights_left b a m.rights })) ≡ Some (entry_for m)
        stays true = choose (is_empty (without m.rights a)) (ap is_empty kept ∙ l.some p m is)
          where
            choose : (b : Bool) → b ≡ false → option_map entry_for (if b then None else Some (record (stripped h set a f p m) { rights = without m.rights a })) ≡ Some (entry_for m)
            choose true none = absurd (cc none)
            choose false none = ap (λ (r : Rights). Some (entry_for (record m { rights = r }))) kept
        stays false = refl

-- pages were noted before a strip of them
pub follow_strip : (h : Holdings) → IsLawful h → (set : PlaceSet) (a : Rights) (f : Bool) (before after : List NoteContent) → IsStripNoted h set a f before after
    → (start : Holdings) → AreNoted start h before → AreNoted start (strip h set a f) after
follow_strip h l set a f before after noted = follow_set h (strip h set a f) noted.noted before after noted.added same
  where
    same : (p : Place) → noted.noted p ≡ false → tables_of (strip h set a f) p ≡ tables_of h p
    same p unnoted = by (loses_at h a p) refl (is_narrowed h set f p) refl
      where
        by : (x : Bool) → loses_at h a p ≡ x → (y : Bool) → is_narrowed h set f p ≡ y → tables_of (strip h set a f) p ≡ tables_of h p
        by false none y within = strip_kept h l set a f p none
        by true some true within = absurd (cc (noted.covers p some within, unnoted))
        by true some false outside = strip_outside h l set a f p outside

-- what loses a right is held
pub loses_held : (h : Holdings) (a : Rights) (p : Place) → loses_at h a p ≡ true → is_held h p ≡ true
loses_held h a p is = by (at h p) is
  where
    by : (o : Option Held) → option_map_or (λ (k : Held). not (is_empty (meet k.rights a))) o false ≡ true → is_some o ≡ true
    by None none = absurd (cc none)
    by (Some m) some = refl

-- such notes follow the strip
pub strip_follow : (h : Holdings) → IsLawful h → (set : PlaceSet) (a : Rights) (f : Bool) (n m : Notes) → NotesAdd (IsStripNoted h set a f) n m → NotesFollow h (strip h set a f) n m
strip_follow h l set a f n m added = record { asked = added.asked; noted = λ is. follow_strip h l set a f n.list.items m.list.items (added.added is) }

-- such notes of a set follow what changes nothing but pages of it
pub set_follow : (old new : Holdings) (set : PlaceSet) (n m : Notes) → NotesAdd (AreAdded old set) n m → ((p : Place) → set p ≡ false → tables_of new p ≡ tables_of old p) → NotesFollow old new n m
set_follow old new set n m added same = record { asked = added.asked; noted = λ is. follow_set old new set n.list.items m.list.items (added.added is) same }

-- ---- one page after another

module _ (h : Holdings) (l : IsLawful h) (a : Rights) (f : Bool) where
  -- narrowed by one of two sets
  narrowed_either : (X Y : PlaceSet) (p : Place) → is_narrowed h (either X Y) f p ≡ true → (is_narrowed h X f p ≡ true) ⊎ (is_narrowed h Y f p ≡ true)
  narrowed_either X Y p within = split (X p) (Y p) (is_under h X p) (is_under h Y p) f (ap (λ b. b || (f && (X p || Y p))) (sym (under-either h l X Y p)) ∙ within)
    where
      split : (x y v w g : Bool) → ((v || w) || (g && (x || y))) ≡ true → ((v || (g && x)) ≡ true) ⊎ ((w || (g && y)) ≡ true)
      split x y true w g is = inl refl
      split x y false true g is = inr refl
      split x y false false false is = absurd (cc is)
      split true y false false true is = inl refl
      split false y false false true is = inr is

  -- notes of one set and of another
  noted_either : (X Y : PlaceSet) (old now new : List NoteContent) → IsStripNoted h X a f old now → IsStripNoted h Y a f now new → IsStripNoted h (either X Y) a f old new
  noted_either X Y old now new first second = record {
    noted = λ q. first.noted q || second.noted q;
    added = added_more h first.noted second.noted old now new first.added second.added;
    covers = λ p some within. by p some (narrowed_either X Y p within);
  }
    where
      by : (p : Place) → loses_at h a p ≡ true → (is_narrowed h X f p ≡ true) ⊎ (is_narrowed h Y f p ≡ true) → (first.noted p || second.noted p) ≡ true
      by p some (inl within) = rw (first.covers p some within) refl
      by p some (inr within) = or_right (first.noted p) (second.noted p) (second.covers p some within)

  -- before the first page
  pub none_noted : (places : List Place) (old : List NoteContent) → IsStripNoted h (any_of (take 0 places)) a f old old
  none_noted places old = record {
    noted = λ q. false;
    added = none_added h old;
    covers = λ p some within. absurd (cc (not_narrowed h (any_of (take 0 places)) f p (below_empty h l (any_of (take 0 places)) (λ q. refl) p), within));
  }

  -- one page more
  pub one_noted : (places : List Place) (i : ℕ) (d : Place) → i < length places → (old now new : List NoteContent) → IsStripNoted h (any_of (take i places)) a f old now → IsStripNoted h (only (get_or places i d)) a f now new → IsStripNoted h (any_of (take (i + 1) places)) a f old new
  one_noted places i d within old now new so_far here =
      let same : either (any_of (take i places)) (only (get_or places i d)) ≡ any_of (take (i + 1) places) = λ j q. sym (ap (λ ps. any_of ps q) (take_more places i d within) ∙ any_more (take i places) (get_or places i d) q) j in
      subst (λ (set : PlaceSet). IsStripNoted h set a f old new) same (noted_either (any_of (take i places)) (only (get_or places i d)) old now new so_far here)

  -- a page that holds nothing
  pub unheld_noted : (p : Place) → is_held h p ≡ false → (now : List NoteContent) → IsStripNoted h (only p) a f now now
  unheld_noted p unheld now = record {
    noted = λ q. false;
    added = none_added h now;
    covers = λ q some within. absurd (cc (not_narrowed h (only p) f q (below_unheld h l p unheld q (loses_held h a q some)), within));
  }

-- ---- the run of a page

module _ (s : Shards) (trees : List Shape) (sound : AreSound s trees) where
  pub lawful : IsLawful (holdings_in s trees)
  lawful = lawful_parts (holdings_in s trees) sound.kept.lawful

  -- each place of a tree is a page of the shards
  pub places_there : (frame : ℕ) → All (λ o. IsPlace s o.0) (links_in trees frame)
  places_there frame k d within =
      let p = place_at (links_in trees frame) k d.0 in
      let inside = within_from_place (limits_in s trees) p (sound.pruned.within frame p (listed_at (links_in trees frame) k d.0 within)) in
      subst (IsPlace s) (sym (read (links_in trees frame) k d within)) (record { space = inside.space; page = inside.page })
    where
      read : (os : Origins) (k : ℕ) (d : Place × Option Place) → k < length os → (get_or os k d).0 ≡ place_at os k d.0
      read [] k d within = absurd (omega (arith, within))
      read (o ∷ os) zero d within = refl
      read (o ∷ os) (suc k) d within = read os k d (omega (arith, within))

  -- a page without a word is not held
  pub absent_noted : (a : Rights) (f : Bool) (p : Place) → IsWithin (limits_in s trees) p → entry_at s p ≡ None → (now : List NoteContent) → IsStripNoted (holdings_in s trees) (only p) a f now now
  absent_noted a f p place none now = unheld_noted (holdings_in s trees) lawful a f p (ap is_some (absent_within (limits_in s trees) s trees p place none)) now

  module _ (a : Rights) (f : Bool) (here : Place) (frame : ℕ) (now new : List NoteContent) (run : IsRunNoted s (links_in trees frame) here a f now new) where
    abbrev h : Holdings
    h = holdings_in s trees

    abbrev lost : PlaceSet
    lost q = in_range (links_in trees frame) (losing_from f run.run.start) run.run.end q && loses_in s a q

    listed : (q : Place) → in_range (links_in trees frame) (losing_from f run.run.start) run.run.end q ≡ true → is_listed trees frame q ≡ true
    listed q among = let at = among_at (links_in trees frame) (losing_from f run.run.start) run.run.end q here among in subst (λ x. is_listed trees frame x ≡ true) at.4 (listed_at (links_in trees frame) at.0 here at.3)

    holds : (q : Place) → is_listed trees frame q ≡ true → is_held h q ≡ true
    holds q is = by (entry_at s q) refl (sound.pruned.held frame q is)
      where
        by : (o : Option Entry) → entry_at s q ≡ o → has_frame frame (entry_at s q) ≡ true → is_held h q ≡ true
        by None none has = absurd (cc (none, has))
        by (Some e) some has = ap is_some (present_within (limits_in s trees) s trees q (within_from_place (limits_in s trees) q (sound.pruned.within frame q is)) e some)

    as_held : (q : Place) (b : Bool) → lost q ≡ b → (if b then Some true else None) ≡ (if b then Some (is_held h q) else None)
    as_held q true is = ap Some (sym (holds q (listed q (and_parts (in_range (links_in trees frame) (losing_from f run.run.start) run.run.end q) (loses_in s a q) is).0)))
    as_held q false is = refl

    run_has : (p : Place) → is_held h p ≡ true → (o : Option Held) → at h p ≡ o → is_below h (only here) p ≡ true → in_range (links_in trees frame) run.run.start run.run.end p ≡ true
    run_has p held None none below = absurd (cc (ap is_some none, held))
    run_has p held (Some m) is below =
        let e = entry_held s trees (loose_from s trees sound) p m is in
        sym (below_among s trees (loose_from s trees sound) frame run.run run.whole run.some run.within here run.first p e.1.0 e.0 e.1.1) ∙ below

    -- its word says so
    word_says : (p : Place) → loses_at h a p ≡ true → loses_in s a p ≡ true
    word_says p some = by_held (at h p) refl some
      where
        by_held : (o : Option Held) → at h p ≡ o → option_map_or (λ (k : Held). not (is_empty (meet k.rights a))) o false ≡ true → loses_in s a p ≡ true
        by_held None none some = absurd (cc some)
        by_held (Some m) is some =
            let e = entry_held s trees (loose_from s trees sound) p m is in
            ap (λ o. option_map_or (λ (x : Entry). not (is_empty (meet x.rights a))) o false) e.1.1 ∙ ap (λ (k : Held). not (is_empty (meet k.rights a))) (sym e.1.2) ∙ some

    -- what is narrowed stands in the run, without a flush behind the first place
    in_losing : (p : Place) → is_held h p ≡ true → is_narrowed h (only here) f p ≡ true → in_range (links_in trees frame) (losing_from f run.run.start) run.run.end p ≡ true
    in_losing p held within = by f refl (run_has p held (at h p) refl (below (is_below h (only here) p) refl))
      where
        below : (b : Bool) → is_below h (only here) p ≡ b → is_below h (only here) p ≡ true
        below true is = is
        below false outside = absurd (cc (not_narrowed h (only here) f p outside, within))

        by : (g : Bool) → f ≡ g → in_range (links_in trees frame) run.run.start run.run.end p ≡ true → in_range (links_in trees frame) (losing_from g run.run.start) run.run.end p ≡ true
        by true flushes among = among
        by false spares among = behind (same_or_apart p here)
          where
            first : in_range (links_in trees frame) run.run.start run.run.end p ≡ (same_place p here || in_range (links_in trees frame) (run.run.start + 1) run.run.end p)
            first = range_first (links_in trees frame) run.run.start run.run.end run.some run.within p here ∙ ap (λ q. same_place p q || in_range (links_in trees frame) (run.run.start + 1) run.run.end p) (run.first here)

            behind : (p ≡ here) ⊎ (same_place p here ≡ false) → in_range (links_in trees frame) (run.run.start + 1) run.run.end p ≡ true
            behind (inl same) = absurd (cc (within, spares, ap (is_under h (only here)) same, under_self h lawful here, ap (only here) same))
            behind (inr apart) = ap (λ b. b || in_range (links_in trees frame) (run.run.start + 1) run.run.end p) (sym apart) ∙ sym first ∙ among

    -- all that a strip of the page changes is in it
    pub run_noted : IsStripNoted h (only here) a f now new
    run_noted = record {
      noted = lost;
      added = λ q. run.adds q ∙ ap (option_or (first_note now q)) (as_held q (lost q) refl);
      covers = λ p some within. and_from (in_range (links_in trees frame) (losing_from f run.run.start) run.run.end p) (loses_in s a p) (in_losing p (loses_held h a p some) within) (word_says p some);
    }
