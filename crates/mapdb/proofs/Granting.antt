-- The strip of the sources of a grant: each that was held is still held.
use Rattle.std.proofs.Common.{◌≡◌, subst, suc, true, false, Bool, ◌&&◌, ◌||◌, not, if◌then◌else◌, [], ◌∷◌, List, Option, Some, None, refl, sym, ap, ◌∙◌, arith, ◌⊎◌, inl, inr, get_or}
use Rattle.std.specs.List.{All}
use Rattle.std.specs.Option.{is_some}
use Rattle.std.proofs.lemmas.Bool.{or_right}
use Rattle.std.proofs.lemmas.List.Elements.{All-nil, All-cons}
use Rattle.fpage.specs.Rights.{is_empty, all_rights, without}
use Rattle.fpage.specs.declared.rights.Rights.{Rights}
use Rattle.space.specs.declared.place.Place.{Place}
use Rattle.space.specs.Place.{same_place}
use Rattle.space.proofs.Places.{same_self, same_or_apart}
use Rattle.model.specs.Definitions.Holdings.{Held, Holdings, PlaceSet, at, is_held}
use Rattle.model.specs.Definitions.Derived.{is_under}
use Rattle.model.specs.Definitions.Items.{sources_of, add_counts, counts_of}
use Rattle.model.specs.Definitions.Strip.{is_narrowed, strip}
use Rattle.model.specs.Definitions.Grant.{renamed}
use Rattle.model.specs.Definitions.Lawful.{is_lawful}
use Rattle.model.proofs.LawfulParts.{IsLawful, lawful_parts}
use Rattle.model.proofs.StripAt.{is_stripped}
use Rattle.model.proofs.StripUnions.{strip_same}
use Rattle.model.proofs.Flushes.{strip_absent}
use Rattle.model.proofs.Grants.{without_withheld}
use Rattle.fpage.specs.declared.item.ItemKind.{ItemKind}
use Rattle.fpage.specs.declared.item.ItemKind.TheVariants.{Map, Grant}
use Rattle.holdings.specs.declared.transfer.Transfer.{Transfer}
use Rattle.holdings.specs.declared.transfer_counts.TransferCounts.{TransferCounts}
use Rattle.holdings.specs.Contents.{Contents, laid_out, left_with, IsStripped, AreMapped, AreMoved}
use Rattle.holdings.specs.Layout.{index_in}
use Rattle.holdings.specs.Places.{any_of}
use Rattle.holdings.specs.Sending.{pair_of, fate_in, AllGo, IsReady, moving_of, counts_after_flush}
use Rattle.holdings.proofs.Stripping.Sequences.{same_back}
use Rattle.mapdb.specs.Sending.{sources_in, AreWorkedBy}

module _ (h : Holdings) (lawful : IsLawful h) (rights : Rights) where
  -- the held sources are those of the pairs that move
  sources_are : (ts : List Transfer) → AllGo ts → (p : Place) → is_held h p ≡ true → sources_in ts p ≡ sources_of (moving_of h ts) p
  sources_are [] go p held = refl
  sources_are (t ∷ ts) go p held = by t.extends (go 0 t (omega arith)) (is_held h t.source) refl (sources_are ts (λ i d within. go (suc i) d (omega (arith, within))) p held)
    where
      by : (b : Bool) → b ≡ false → (k : Bool) → is_held h t.source ≡ k → sources_in ts p ≡ sources_of (moving_of h ts) p
          → ((not b && same_place p t.source) || sources_in ts p) ≡ sources_of (if k then pair_of t ∷ moving_of h ts else moving_of h ts) p
      by true extends k is rest = absurd (cc extends)
      by false going true is rest = λ i. same_back p t.source i || rest i
      by false going false is rest = ap (λ b. b || sources_in ts p) (apart (same_or_apart p t.source)) ∙ rest
        where
          apart : (p ≡ t.source) ⊎ (same_place p t.source ≡ false) → same_place p t.source ≡ false
          apart (inl same) = absurd (cc (is, held, ap (is_held h) same))
          apart (inr differ) = differ

  -- so to strip either is the same
  pub source_set : (ts : List Transfer) → AllGo ts → strip h (sources_in ts) (without all_rights rights) true ≡ strip h (sources_of (moving_of h ts)) (without all_rights rights) true
  source_set ts go = strip_same h lawful (sources_in ts) (sources_of (moving_of h ts)) (sources_are ts go) (without all_rights rights) true

  module _ (set : PlaceSet) where
    abbrev left : Holdings
    left = strip h set (without all_rights rights) true

    -- a target that holds nothing still holds nothing
    pub after_strip_free : (ts : List Transfer) → AllGo ts → All (IsReady h rights) ts → All (λ t. at left t.target ≡ None) ts
    after_strip_free ts go ready i d within =
        strip_absent h lawful set (without all_rights rights) true (get_or ts i d).target ((ready i d within).free (go i d within))

    -- a source of the set is held exactly where it was
    still : (t : Transfer) → IsReady h rights t → (is_held h t.source ≡ true → set t.source ≡ true) → is_held left t.source ≡ is_held h t.source
    still t ready named = by (at h t.source) refl
      where
        by : (m : Option Held) → at h t.source ≡ m → is_held left t.source ≡ is_held h t.source
        by None none = ap is_some (strip_absent h lawful set (without all_rights rights) true t.source none) ∙ sym (ap is_some none)
        by (Some m) held =
            let narrowed : is_narrowed h set true t.source ≡ true = or_right (is_under h set t.source) _ (named (ap is_some held)) in
            ap is_some (is_stripped h set (without all_rights rights) true lawful t.source m held (rw narrowed (ap is_empty (without_withheld m.rights rights) ∙ ready.some m held))) ∙ sym (ap is_some held)

  -- a held source is one of those that move
  moving_named : (ts : List Transfer) → All (λ t. is_held h t.source ≡ true → sources_of (moving_of h ts) t.source ≡ true) ts
  moving_named [] = All-nil (λ t. is_held h t.source ≡ true → sources_of (moving_of h []) t.source ≡ true)
  moving_named (t ∷ ts) =
      All-cons (λ x. is_held h x.source ≡ true → sources_of (moving_of h (t ∷ ts)) x.source ≡ true) t ts (λ held. rw (held, same_self t.source) refl)
      (λ i d within held. more (is_held h t.source) (get_or ts i d).source (moving_named ts i d within held))
    where
      more : (k : Bool) (p : Place) → sources_of (moving_of h ts) p ≡ true → sources_of (if k then pair_of t ∷ moving_of h ts else moving_of h ts) p ≡ true
      more true p is = or_right (same_place t.source p) (sources_of (moving_of h ts) p) is
      more false p is = is

  module _ (ts : List Transfer) (ready : All (IsReady h rights) ts) where
    abbrev left_of_sources : Holdings
    left_of_sources = strip h (sources_of (moving_of h ts)) (without all_rights rights) true

    all_still : All (λ t. is_held left_of_sources t.source ≡ is_held h t.source) ts
    all_still i d within = still (sources_of (moving_of h ts)) (get_or ts i d) (ready i d within) (moving_named ts i d within)

    -- the same pairs move, and count the same
    pub after_strip_moving : moving_of left_of_sources ts ≡ moving_of h ts
    after_strip_moving = by ts all_still
      where
        by : (xs : List Transfer) → All (λ t. is_held left_of_sources t.source ≡ is_held h t.source) xs → moving_of left_of_sources xs ≡ moving_of h xs
        by [] same = refl
        by (x ∷ xs) same = λ i. if same 0 x (omega arith) i then pair_of x ∷ by xs (λ k d within. same (suc k) d (omega (arith, within))) i else by xs (λ k d within. same (suc k) d (omega (arith, within))) i

    pub after_strip_worked : counts_after_flush left_of_sources ts ≡ counts_after_flush h ts
    after_strip_worked = by ts all_still
      where
        by : (xs : List Transfer) → All (λ t. is_held left_of_sources t.source ≡ is_held h t.source) xs → counts_after_flush left_of_sources xs ≡ counts_after_flush h xs
        by [] same = refl
        by (x ∷ xs) same = λ i. add_counts (counts_of (fate_in x) (same 0 x (omega arith) i)) (by xs (λ k d within. same (suc k) d (omega (arith, within))) i)

-- what the strip of the sources leaves
module _ (old : Contents) (lawful : is_lawful old.holdings ≡ true) (rights : Rights) (ts : List Transfer) (go : AllGo ts) (now : Contents) (status : Rights) (places : List Place) (are : (p : Place) → any_of places p ≡ sources_in ts p)
    (withheld : Rights) (withheld_is : withheld ≡ without all_rights rights) (done : IsStripped old (any_of places) withheld true (now, status)) where
  pub sources_stripped : now ≡ left_with old (strip old.holdings (sources_of (moving_of old.holdings ts)) (without all_rights rights) true)
  sources_stripped =
      let set : any_of places ≡ sources_in ts = λ i p. are p i in
      done.left ∙ (λ i. left_with old (strip old.holdings (set i) (withheld_is i) true)) ∙ ap (left_with old) (source_set old.holdings (lawful_parts old.holdings lawful) rights ts go)

  pub still_free : All (IsReady old.holdings rights) ts → All (λ t. at now.holdings t.target ≡ None) ts
  still_free ready =
      subst (λ (g : Contents). All (λ t. at g.holdings t.target ≡ None) ts) (sym sources_stripped)
      (after_strip_free old.holdings (lawful_parts old.holdings lawful) rights (sources_of (moving_of old.holdings ts)) ts go ready)

  -- what was moved then is what the definition moves
  pub moved_after : All (IsReady old.holdings rights) ts → (r : Contents × TransferCounts) → AreMoved now ts r → AreWorkedBy old Grant rights ts r
  moved_after ready r moved =
      let h = old.holdings in
      let l = lawful_parts h lawful in
      let left = strip h (sources_of (moving_of h ts)) (without all_rights rights) true in
      record {
        left = moved.left ∙ ap (λ (g : Contents). laid_out (left_with g (renamed (moving_of g.holdings ts) g.holdings)) r.0.layout) sources_stripped
            ∙ ap (λ es. laid_out (left_with old (renamed es left)) r.0.layout) (after_strip_moving h l rights ts ready);
        grows = λ p i at. moved.grows p i (ap (λ (g : Contents). index_in g.layout p) sources_stripped ∙ at);
        counted = moved.counted ∙ ap (λ (g : Contents). counts_after_flush g.holdings ts) sources_stripped ∙ after_strip_worked h l rights ts ready;
      }

-- what was mapped is what the definition maps
pub mapped_after : (old : Contents) (rights : Rights) (ts : List Transfer) (r : Contents × TransferCounts) → AreMapped old ts rights r → AreWorkedBy old Map rights ts r
mapped_after old rights ts r mapped = record { left = mapped.left; grows = mapped.grows; counted = mapped.counted }

-- either, by the kind of the item
pub worked_as : (old : Contents) (kind k : ItemKind) (rights : Rights) (us ts : List Transfer) (r x : Contents × TransferCounts) → kind ≡ k → us ≡ ts → x ≡ r → AreWorkedBy old k rights us r → AreWorkedBy old kind rights ts x
worked_as old kind k rights us ts r x kind_is us_are x_is worked =
    subst (λ (y : Contents × TransferCounts). AreWorkedBy old kind rights ts y) (sym x_is)
    (subst (λ (vs : List Transfer). AreWorkedBy old kind rights vs r) us_are
    (subst (λ (j : ItemKind). AreWorkedBy old j rights us r) (sym kind_is) worked))
