-- New mappings put into the trees of their frames one by one; and the target that is told for a source.
use Rattle.std.proofs.Common.{◌≡◌, ℕ, zero, suc, ◌+◌, ◌<◌, ◌≤◌, true, false, Bool, ◌||◌, ◌&&◌, ◌==◌, List, [], ◌∷◌, ◌++◌, length, take, get_or, Option, Some, None, refl, sym, ap, ◌∙◌, subst, arith, ◌⊎◌, inl, inr, if◌then◌else◌, cond}
use Rattle.std.specs.Prelude.{count_by}
use Rattle.std.proofs.lemmas.Bool.{or_parts, eq-eqb, eqb-true, cases_eq, false_from_ne_true}
use Rattle.std.proofs.Math.Seq.{get_or-append_seam, take-append_seam, take-append-add}
use Rattle.std.proofs.lemmas.List.{length-append, take_more}
use Rattle.std.proofs.lemmas.List.Sums.{sum_by-cons}
use Rattle.std.proofs.lemmas.List.Folds.{list_any_more, list_any_none}
use Rattle.std.proofs.lemmas.List.Elements.{All-more, All-from_get_or}
use Rattle.std.proofs.lemmas.Option.{same_Some}
use Rattle.std.proofs.Math.Bool.{or-false, and-false}
use Rattle.space.specs.declared.place.Place.{Place}
use Rattle.space.specs.Place.{same_place}
use Rattle.space.proofs.Places.{same_self, same_is, apart_back}
use Rattle.maptree.specs.Origins.{Origins, Shape, origin_in}
use Rattle.holdings.specs.declared.link.Link.{Link}
use Rattle.holdings.specs.Inner.Derivation.{stands_in, IsDerived}
use Rattle.holdings.specs.Inner.Held.{links_in, is_listed}
use Rattle.holdings.specs.Inner.Links.{IsTreeSet, is_new_in, is_new_of, AreLinked, AreLinkable, last_target}
use Rattle.holdings.specs.declared.transfer.Transfer.{Transfer}

abbrev pub no_link : Link
no_link = record { frame = 0; source = record { space = 0; page = 0 }; target = record { space = 0; page = 0 } }

pub some_or : (a b : Bool) → b ≡ true → (a || b) ≡ true
some_or a b is = grind (arith, is)

-- ---- no two are one

counted : (p : Link → Bool) (l : Link) (ls : List Link) → count_by p (l ∷ ls) ≡ cond (p l) 1 0 + count_by p ls
counted p l ls = sum_by-cons (λ x. cond (p x) 1 0) l ls

none_counted : (p : Link → Bool) (ls : List Link) (i : ℕ) (d : Link) → count_by p ls ≡ 0 → i < length ls → p (get_or ls i d) ≡ false
none_counted p [] i d none within = absurd (omega (arith, within))
none_counted p (l ∷ ls) zero d none within = by (p l) (sym (counted p l ls) ∙ none)
  where
    by : (b : Bool) → cond b 1 0 + count_by p ls ≡ 0 → b ≡ false
    by true is = absurd (omega (arith, is))
    by false is = refl
none_counted p (l ∷ ls) (suc i) d none within = let here = counted p l ls in none_counted p ls i d (omega (arith, none, here)) (omega (arith, within))

-- each is apart from those before it
pub apart_before : (f : Link → Place) (ls : List Link) → ((q : Place) → count_by (λ l. same_place q (f l)) ls ≤ 1) → (j i : ℕ) (d : Link) → j < i → i < length ls → same_place (f (get_or ls j d)) (f (get_or ls i d)) ≡ false
apart_before f [] once j i d less within = absurd (omega (arith, within))
apart_before f (l ∷ ls) once j zero d less within = absurd (omega (arith, less))
apart_before f (l ∷ ls) once zero (suc i) d less within =
    let here : count_by (λ m. same_place (f l) (f m)) (l ∷ ls) ≡ 1 + count_by (λ m. same_place (f l) (f m)) ls = counted (λ m. same_place (f l) (f m)) l ls ∙ ap (λ b. cond b 1 0 + count_by (λ m. same_place (f l) (f m)) ls) (same_self (f l)) in
    let most = once (f l) in
    none_counted (λ m. same_place (f l) (f m)) ls i d (omega (arith, here, most)) (omega (arith, within))
apart_before f (l ∷ ls) once (suc j) (suc i) d less within =
    apart_before f ls (λ q. let here = counted (λ m. same_place q (f m)) l ls in let most = once q in omega (arith, here, most)) j i d (omega (arith, less)) (omega (arith, within))

-- a read of the front of a list
read_front : (ls : List Link) (n i : ℕ) (d : Link) → i < length (take n ls) → (i < n) × (i < length ls) × (get_or (take n ls) i d ≡ get_or ls i d)
read_front [] zero i d within = absurd (omega (arith, within))
read_front [] (suc n) i d within = absurd (omega (arith, within))
read_front (l ∷ ls) zero i d within = absurd (omega (arith, within))
read_front (l ∷ ls) (suc n) zero d within = (omega arith, omega arith, refl)
read_front (l ∷ ls) (suc n) (suc i) d within = let rest = read_front ls n i d (omega (arith, within)) in (omega (arith, rest.0), omega (arith, rest.1), rest.2)

-- the target of one is none of those before it
pub new_target : (ls : List Link) → ((p : Place) → count_by (λ l. same_place p l.target) ls ≤ 1) → (i : ℕ) (d : Link) → i < length ls → is_new_in (take i ls) (get_or ls i d).target ≡ false
new_target ls once i d within =
    list_any_none (λ l. same_place (get_or ls i d).target l.target) (take i ls)
    (All-from_get_or (λ l. same_place (get_or ls i d).target l.target ≡ false) (take i ls) d
    (λ k less.
    let at = read_front ls i k d less in
    apart_back (get_or (take i ls) k d).target (get_or ls i d).target (ap (λ (l : Link). same_place l.target (get_or ls i d).target) at.2 ∙ apart_before (λ l. l.target) ls once k i d at.0 within)))

-- ---- one by one, each in the tree of its frame

-- none yet
pub none_linked : (old : List Shape) → AreLinked [] old old
none_linked old = record { count = refl; stands = λ f p. refl; elsewhere = λ f p _. refl; there = λ k d within. absurd (omega (arith, within)) }

-- what is new in no tree is not new in this one
new_in_none : (ls : List Link) (f : ℕ) (p : Place) → is_new_in ls p ≡ false → is_new_of ls f p ≡ false
new_in_none [] f p none = refl
new_in_none (l ∷ ls) f p none =
    let parts = or_parts (same_place p l.target) (is_new_in ls p) none in
    rw (parts.0, new_in_none ls f p parts.1) (ap (λ b. b || false) (and-false (l.frame == f)))

module _ (old : List Shape) (ls : List Link) (can : AreLinkable old ls) (i : ℕ) (d : Link) (within : i < length ls) (mid : List Shape) (before : AreLinked (take i ls) old mid) where
  abbrev the_link : Link
  the_link = get_or ls i d

  pub frame_there : the_link.frame < length mid
  frame_there = let less = can.frames i d within in let count = before.count in omega (arith, less, count)

  pub source_there : stands_in (links_in mid the_link.frame) the_link.source ≡ true
  source_there = before.stands the_link.frame the_link.source ∙ some_or (is_new_of (take i ls) the_link.frame the_link.source) _ (can.sources i d within)

  pub target_free : stands_in (links_in mid the_link.frame) the_link.target ≡ false
  target_free =
      before.stands the_link.frame the_link.target
      ∙ ap (λ b. b || is_listed old the_link.frame the_link.target) (new_in_none (take i ls) the_link.frame the_link.target (new_target ls can.once i d within))
      ∙ can.targets i d within the_link.frame

  more : (f : ℕ) (p : Place) → is_new_of (take (i + 1) ls) f p ≡ (is_new_of (take i ls) f p || (the_link.frame == f && same_place p the_link.target))
  more f p = list_any_more (λ (l : Link). l.frame == f && same_place p l.target) ls i d within

  module _ (new : List Shape) (links : Origins) (set : IsTreeSet mid new the_link.frame links) (derived : IsDerived (links_in mid the_link.frame) links the_link.source the_link.target) where
    swap : (a b c : Bool) → (a || (b || c)) ≡ ((b || a) || c)
    swap a b c = grind arith

    stands_now : (f : ℕ) (p : Place) → (f ≡ the_link.frame) ⊎ (f ≡ the_link.frame → ⊥) → is_listed new f p ≡ (is_new_of (take (i + 1) ls) f p || is_listed old f p)
    stands_now f p (inl same) =
        ap (λ g. is_listed new g p) same ∙ ap (λ (os : Origins). stands_in os p) set.there ∙ derived.stands p
        ∙ ap (λ b. same_place p the_link.target || b) (before.stands the_link.frame p) ∙ swap (same_place p the_link.target) (is_new_of (take i ls) the_link.frame p) (is_listed old the_link.frame p)
        ∙ ap (λ b. (is_new_of (take i ls) the_link.frame p || (b && same_place p the_link.target)) || is_listed old the_link.frame p) (sym (eq-eqb the_link.frame the_link.frame refl))
        ∙ ap (λ b. b || is_listed old the_link.frame p) (sym (more the_link.frame p))
        ∙ ap (λ g. is_new_of (take (i + 1) ls) g p || is_listed old g p) (sym same)
    stands_now f p (inr differ) =
        let other : (the_link.frame == f) ≡ false = false_from_ne_true _ (λ is. differ (sym (eqb-true the_link.frame f is))) in
        ap (λ (os : Origins). stands_in os p) (set.elsewhere f differ) ∙ before.stands f p
        ∙ ap (λ b. b || is_listed old f p) (sym (or-false (is_new_of (take i ls) f p)) ∙ ap (λ b. is_new_of (take i ls) f p || (b && same_place p the_link.target)) (sym other) ∙ sym (more f p))

    origin_now : (f : ℕ) (p : Place) → is_new_of (take i ls) f p ≡ false → (the_link.frame == f && same_place p the_link.target) ≡ false → (f ≡ the_link.frame) ⊎ (f ≡ the_link.frame → ⊥)
        → origin_in (links_in new f) p ≡ origin_in (links_in old f) p
    origin_now f p none here (inl same) =
        let apart : same_place p the_link.target ≡ false = ap (λ b. b && same_place p the_link.target) (sym (eq-eqb the_link.frame f (sym same))) ∙ here in
        ap (λ g. origin_in (links_in new g) p) same ∙ ap (λ os. origin_in os p) set.there ∙ derived.elsewhere p apart ∙ ap (λ g. origin_in (links_in mid g) p) (sym same) ∙ before.elsewhere f p none
    origin_now f p none here (inr differ) = ap (λ os. origin_in os p) (set.elsewhere f differ) ∙ before.elsewhere f p none

    kept : (l : Link) → same_place l.target the_link.target ≡ false → (l.frame ≡ the_link.frame) ⊎ (l.frame ≡ the_link.frame → ⊥) → origin_in (links_in new l.frame) l.target ≡ origin_in (links_in mid l.frame) l.target
    kept l apart (inl same) =
        ap (λ g. origin_in (links_in new g) l.target) same ∙ ap (λ os. origin_in os l.target) set.there ∙ derived.elsewhere l.target apart ∙ ap (λ g. origin_in (links_in mid g) l.target) (sym same)
    kept l apart (inr differ) = ap (λ os. origin_in os l.target) (set.elsewhere l.frame differ)

    pub one_linked : AreLinked (take (i + 1) ls) old new
    one_linked = record {
      count = set.count ∙ before.count;
      stands = λ f p. stands_now f p (cases_eq f the_link.frame);
      elsewhere = λ f p none. let parts = or_parts (is_new_of (take i ls) f p) (the_link.frame == f && same_place p the_link.target) (sym (more f p) ∙ none) in origin_now f p parts.0 parts.1 (cases_eq f the_link.frame);
      there = All-more (λ (l : Link). origin_in (links_in new l.frame) l.target ≡ Some l.source) ls i d within
          (All-from_get_or (λ (l : Link). origin_in (links_in new l.frame) l.target ≡ Some l.source) (take i ls) d
          (λ k less.
          let at = read_front ls i k d less in
          let l = get_or (take i ls) k d in
          let apart : same_place l.target the_link.target ≡ false = ap (λ (m : Link). same_place m.target the_link.target) at.2 ∙ apart_before (λ m. m.target) ls can.once k i d at.0 within in
          kept l apart (cases_eq l.frame the_link.frame) ∙ before.there k d less))
          (ap (λ os. origin_in os the_link.target) set.there ∙ derived.there);
    }

-- the same of one behind others
module _ (old : List Shape) (before after : List Link) (l : Link) (can : AreLinkable old (before ++ l ∷ after)) (mid : List Shape) (linked : AreLinked before old mid) where
  abbrev all : List Link
  all = before ++ l ∷ after

  abbrev at : ℕ
  at = length before

  here : get_or all at no_link ≡ l
  here = get_or-append_seam before l after no_link

  within : at < length all
  within = let joined = length-append before (l ∷ after) in omega (arith, joined)

  so_far : AreLinked (take at all) old mid
  so_far = subst (λ ls. AreLinked ls old mid) (sym (take-append_seam before (l ∷ after))) linked

  pub next_frame : l.frame < length mid
  next_frame = subst (λ (m : Link). m.frame < length mid) here (frame_there old all can at no_link within mid so_far)

  pub next_source : stands_in (links_in mid l.frame) l.source ≡ true
  next_source = subst (λ (m : Link). stands_in (links_in mid m.frame) m.source ≡ true) here (source_there old all can at no_link within mid so_far)

  pub next_target : stands_in (links_in mid l.frame) l.target ≡ false
  next_target = subst (λ (m : Link). stands_in (links_in mid m.frame) m.target ≡ false) here (target_free old all can at no_link within mid so_far)

  pub next_linked : (new : List Shape) (links : Origins) → IsTreeSet mid new l.frame links → IsDerived (links_in mid l.frame) links l.source l.target → AreLinked (before ++ l ∷ []) old new
  next_linked new links set derived =
      subst (λ ls. AreLinked ls old new) (take-append-add before (l ∷ after) 1)
      (one_linked old all can at no_link within mid so_far new links (subst (λ (m : Link). IsTreeSet mid new m.frame links) (sym here) set) (subst (λ (m : Link). IsDerived (links_in mid m.frame) links m.source m.target) (sym here) derived))

-- ---- the target that is told for a source

told_last : (ls : List Link) (l : Link) (p : Place) (last : Option Place) → last_target (ls ++ l ∷ []) p last ≡ (if same_place p l.source then Some l.target else last_target ls p last)
told_last [] l p last = refl
told_last (m ∷ ls) l p last = told_last ls l p (if same_place p m.source then Some m.target else last)

-- one more is told
pub one_told : (ls : List Link) (i : ℕ) (d : Link) (p : Place) → i < length ls → last_target (take (i + 1) ls) p None ≡ (if same_place p (get_or ls i d).source then Some (get_or ls i d).target else last_target (take i ls) p None)
one_told ls i d p within = ap (λ xs. last_target xs p None) (take_more ls i d within) ∙ told_last (take i ls) (get_or ls i d) p None

-- one of the list
pub record IsAt (ls : List Link) (p q : Place) : Type 0 where
  pub k : ℕ
  pub within : k < length ls
  pub source : (get_or ls k no_link).source ≡ p
  pub target : (get_or ls k no_link).target ≡ q

pub last_some : (ls : List Link) (p q : Place) (last : Option Place) → last_target ls p last ≡ Some q → IsAt ls p q ⊎ (last ≡ Some q)
last_some [] p q last is = inr is
last_some (l ∷ ls) p q last is = by (last_some ls p q (if same_place p l.source then Some l.target else last) is)
  where
    here : (b : Bool) → same_place p l.source ≡ b → (if b then Some l.target else last) ≡ Some q → IsAt (l ∷ ls) p q ⊎ (last ≡ Some q)
    here true same got = inl (record { k = 0; within = omega arith; source = sym (same_is p l.source same); target = same_Some l.target q got })
    here false same got = inr got

    by : IsAt ls p q ⊎ ((if same_place p l.source then Some l.target else last) ≡ Some q) → IsAt (l ∷ ls) p q ⊎ (last ≡ Some q)
    by (inl at) = inl (record { k = suc at.k; within = (let w = at.within in omega (arith, w)); source = at.source; target = at.target })
    by (inr got) = here (same_place p l.source) refl got

pub told_none : (ls : List Link) (p : Place) (last : Option Place) → ((k : ℕ) → k < length ls → same_place p (get_or ls k no_link).source ≡ false) → last_target ls p last ≡ last
told_none [] p last apart = refl
told_none (l ∷ ls) p last apart =
    told_none ls p (if same_place p l.source then Some l.target else last) (λ k within. apart (suc k) (omega (arith, within))) ∙ ap (λ b. if b then Some l.target else last) (apart 0 (omega arith))

abbrev pub no_transfer : Transfer
no_transfer = record { source = record { space = 0; page = 0 }; target = record { space = 0; page = 0 }; extends = false }
