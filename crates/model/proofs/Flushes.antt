-- The flush: the held targets of some pairs are gone, with all that derives from them; the rest keeps frame, rights and origin.
use Rattle.std.proofs.Common.{◌≡◌, true, false, Bool, ◌&&◌, ◌||◌, List, Option, Some, None, refl, ap, ◌∙◌, arith}
use Rattle.std.specs.Option.{is_some}
use Rattle.std.proofs.Math.Bool.{and-false}
use Rattle.std.proofs.lemmas.Bool.{and_from, or_left, false_from_ne_true}
use Rattle.fpage.specs.Rights.{all_rights, join, without, is_empty}
use Rattle.fpage.specs.declared.rights.Rights.{Rights}
use Rattle.space.specs.declared.place.Place.{Place}
use Rattle.model.specs.Definitions.Holdings.{Held, Holdings, PlaceSet, at, is_held}
use Rattle.model.specs.Definitions.Derived.{is_under, is_below}
use Rattle.model.specs.Definitions.Strip.{is_narrowed, stripped, passed_to, strip}
use Rattle.model.specs.Definitions.Items.{Pair, targets_of, flush}
use Rattle.model.specs.Laws.SendLaws.{In}
use Rattle.model.proofs.Lookups.{changed, at_each}
use Rattle.model.proofs.LawfulParts.{IsLawful}
use Rattle.model.proofs.StripAt.{stripping, lawful_strip, was_stripped, is_stripped}
use Rattle.model.proofs.Jobs.{in_targets}

either_order : (a b : Bool) → (a || (true && b)) ≡ (b || a)
either_order a b = grind arith

-- with f set, what loses rights is what is below the set
pub narrowed_with : (h : Holdings) (set : PlaceSet) (p : Place) → is_narrowed h set true p ≡ is_below h set p
narrowed_with h set p = either_order (is_under h set p) (set p)

without_all : (r : Rights) → is_empty (without r all_rights) ≡ true
without_all r = rw (and-false r.read, and-false r.write, and-false r.execute) refl

-- what was not held is not held after strip
pub strip_absent : (h : Holdings) (l : IsLawful h) (set : PlaceSet) (a : Rights) (f : Bool) (p : Place) → at h p ≡ None → at (strip h set a f) p ≡ None
strip_absent h l set a f p absent = at_each (stripping h set a f) h p l.sorted ∙ ap (changed (stripping h set a f) p) absent

module _ (h : Holdings) (es : List Pair) where
  -- the targets that are held
  abbrev pub held_targets : PlaceSet
  held_targets q = targets_of es q && is_held h q

  -- what the flush leaves of a mapping that is not below the held targets
  abbrev pub flushed_as : Place → Held → Held
  flushed_as p m = record m { status = join m.status (passed_to h held_targets p) }

  -- what is held after the flush was held before, with the same frame, rights and origin
  pub record WasFlushed (p : Place) (k : Held) : Type 0 where
    pub before : Held
    pub held : at h p ≡ Some before
    pub is : k ≡ flushed_as p before
    pub outside : is_below h held_targets p ≡ false

  stripped_outside : (p : Place) (m : Held) → is_below h held_targets p ≡ false → stripped h held_targets all_rights true p m ≡ flushed_as p m
  stripped_outside p m outside = rw (narrowed_with h held_targets p ∙ outside, outside) refl

  module _ (l : IsLawful h) where
    -- the flush keeps holdings lawful
    pub lawful_flush : IsLawful (flush h es)
    lawful_flush = lawful_strip h held_targets all_rights true l

    -- what is below the held targets is gone
    pub flushed_gone : (p : Place) → is_below h held_targets p ≡ true → at (flush h es) p ≡ None
    flushed_gone p below = at_each (stripping h held_targets all_rights true) h p l.sorted ∙ by (at h p)
      where
        by : (m : Option Held) → changed (stripping h held_targets all_rights true) p m ≡ None
        by None = refl
        by (Some m) = rw (narrowed_with h held_targets p ∙ below, without_all m.rights) refl

    -- no target is held
    pub target_gone : (e : Pair) → In e es → at (flush h es) e.1 ≡ None
    target_gone e k = by (at h e.1) refl
      where
        by : (m : Option Held) → at h e.1 ≡ m → at (flush h es) e.1 ≡ None
        by None is = strip_absent h l held_targets all_rights true e.1 is
        by (Some m) is = flushed_gone e.1 (or_left _ _ (and_from _ _ (in_targets es e k) (ap is_some is)))

    -- what is not below the held targets keeps frame, rights and origin
    pub flushed_kept : (p : Place) (m : Held) → at h p ≡ Some m → is_below h held_targets p ≡ false → at (flush h es) p ≡ Some (flushed_as p m)
    flushed_kept p m held outside =
        is_stripped h held_targets all_rights true l p m held (rw (narrowed_with h held_targets p ∙ outside) refl) ∙ ap Some (stripped_outside p m outside)

    -- what is held after the flush is what it leaves of a mapping that is not below the held targets
    pub was_flushed : (p : Place) (k : Held) → at (flush h es) p ≡ Some k → WasFlushed p k
    was_flushed p k is =
        let w = was_stripped h held_targets all_rights true l p k is in
        let outside : is_below h held_targets p ≡ false = false_from_ne_true _ (λ below. absurd (cc (is, flushed_gone p below))) in
        record { before = w.before; held = w.held; is = w.is ∙ stripped_outside p w.before outside; outside = outside }
