-- One page of a MapItem after the flush, from words and trees.
use Rattle.std.proofs.Common.{◌≡◌, true, false, Bool, [], List, length, if◌then◌else◌, Option, Some, None, refl, sym, ap, ◌∙◌, subst, ◌⊎◌, inl, inr}
use Rattle.std.specs.Option.{option_map, is_some}
use Rattle.std.specs.FinMap.Entries.{put}
use Rattle.std.proofs.lemmas.Bool.{eq-eqb}
use Rattle.std.proofs.lemmas.Option.{same_Some}
use Rattle.fpage.specs.Rights.{meet, join, is_empty, is_within}
use Rattle.fpage.specs.declared.rights.Rights.{Rights}
use Rattle.fpage.specs.declared.item.ItemKind.TheVariants.{Map}
use Rattle.fpage.proofs.RightSets.{within_self, within_trans, within_join, join_within, meet_within, larger_not_empty}
use Rattle.space.specs.declared.place.Place.{Place}
use Rattle.space.specs.declared.place.Entry.{Entry}
use Rattle.space.specs.declared.shards.Shards.{Shards}
use Rattle.space.specs.Place.{place_cmp, same_place}
use Rattle.space.specs.Shards.{entry_at, IsLaidOutAs}
use Rattle.space.proofs.Places.{same_or_apart}
use Rattle.maptree.specs.Origins.{Shape}
use Rattle.model.specs.Definitions.Holdings.{Held, Holdings, at}
use Rattle.model.specs.Definitions.Calls.{Limits}
use Rattle.model.specs.Definitions.Lawful.{is_lawful}
use Rattle.model.specs.Definitions.Items.{Job, extends, goes}
use Rattle.model.specs.Definitions.Map.{extended, map_pair}
use Rattle.model.proofs.LawfulParts.{IsLawful, IsOrigin, lawful_parts, lawful_from}
use Rattle.model.proofs.Growths.{lawful_grown}
use Rattle.model.proofs.Puts.{put_here, put_elsewhere, sorted_put}
use Rattle.holdings.specs.declared.transfer.Transfer.{Transfer}
use Rattle.space.specs.Entries as word
use Rattle.holdings.specs.Places.{IsWithin}
use Rattle.holdings.specs.Inner.Held.{is_listed, held_of, held_at, has_frame, holdings_of, limits_in, holdings_in}
use Rattle.holdings.specs.Inner.Sound.{IsSound, AreSound}
use Rattle.holdings.specs.Sending.{fate_in, pair_of, IsReady}
use Rattle.holdings.specs.Inner.Links.{IsLinked}
use Rattle.holdings.proofs.Contents.Listing.{listing_put}
use Rattle.holdings.proofs.Contents.Holders.{place_within, held_elsewhere, present_within, absent_within}
use Rattle.holdings.proofs.Contents.WordChanges.{IsWordSet, sound_set}
use Rattle.holdings.proofs.Links.NewMappings.{IsMapped, linked_entry, mapped_holdings, mapped_sound, word_free, unlisted}

-- ---- a mapping of a held place that gains rights of it

module _ (h : Holdings) (l : IsLawful h) (source target : Place) (m t : Held) (rights : Rights) (held : at h source ≡ Some m) (there : at h target ≡ Some t) (origin : t.origin ≡ Some source) where
  abbrev wider : Held
  wider = record t { rights = join t.rights (meet m.rights rights) }

  abbrev after : Holdings
  after = put place_cmp target wider h

  larger : is_within t.rights wider.rights ≡ true
  larger = within_join t.rights (meet m.rights rights)

  -- what is held after it was held before, or is the wider mapping
  cases : (p : Place) (v : Held) → at after p ≡ Some v → ((p ≡ target) × (v ≡ wider)) ⊎ ((same_place p target ≡ false) × (at h p ≡ Some v))
  cases p v is = by (same_or_apart p target)
    where
      by : (p ≡ target) ⊎ (same_place p target ≡ false) → ((p ≡ target) × (v ≡ wider)) ⊎ ((same_place p target ≡ false) × (at h p ≡ Some v))
      by (inl same) = inl (same, same_Some v wider (sym is ∙ ap (at after) same ∙ put_here target wider h))
      by (inr apart) = inr (apart, sym (put_elsewhere p target wider h apart) ∙ is)

  -- what was held is held, with at least its rights
  record Still (p : Place) (v : Held) : Type 0 where
    now : Held
    is : at after p ≡ Some now
    frame : now.frame ≡ v.frame
    from : now.origin ≡ v.origin
    within : is_within v.rights now.rights ≡ true

  still : (p : Place) (v : Held) → at h p ≡ Some v → Still p v
  still p v is = by (same_or_apart p target)
    where
      by : (p ≡ target) ⊎ (same_place p target ≡ false) → Still p v
      by (inl same) =
          let one : t ≡ v = same_Some t v (sym there ∙ ap (at h) (sym same) ∙ is) in
          record { now = wider; is = ap (at after) same ∙ put_here target wider h; frame = ap (λ x. x.frame) one; from = ap (λ x. x.origin) one; within = subst (λ x. is_within x.rights wider.rights ≡ true) one larger }
      by (inr apart) = record { now = v; is = put_elsewhere p target wider h apart ∙ is; frame = refl; from = refl; within = within_self v.rights }

  source_of_target : IsOrigin h source t
  source_of_target = l.origin target source t there origin

  origin_after : (p o : Place) (v : Held) → at after p ≡ Some v → v.origin ≡ Some o → IsOrigin after o v
  origin_after p o v is from = by (cases p v is)
    where
      by : ((p ≡ target) × (v ≡ wider)) ⊎ ((same_place p target ≡ false) × (at h p ≡ Some v)) → IsOrigin after o v
      by (inl (same, one)) =
          let here : source ≡ o = same_Some source o (sym origin ∙ ap (λ x. x.origin) (sym one) ∙ from) in
          let was = source_of_target in
          let equal : was.held ≡ m = same_Some was.held m (sym was.is ∙ held) in
          let s = still source m held in
          let below : is_within wider.rights m.rights ≡ true = join_within t.rights (meet m.rights rights) m.rights (subst (λ x. is_within t.rights x.rights ≡ true) equal was.within) (meet_within m.rights rights) in
          record {
            held = s.now;
            is = ap (at after) (sym here) ∙ s.is;
            frame = ap (λ x. x.frame) one ∙ was.frame ∙ ap (λ x. x.frame) equal ∙ sym s.frame;
            within = subst (λ x. is_within x.rights s.now.rights ≡ true) (sym one) (within_trans wider.rights m.rights s.now.rights below s.within);
          }
      by (inr (apart, old)) =
          let was = l.origin p o v old from in
          let s = still o was.held was.is in
          record { held = s.now; is = s.is; frame = was.frame ∙ sym s.frame; within = within_trans v.rights was.held.rights s.now.rights was.within s.within }

  pub lawful_widened : IsLawful (put place_cmp target (record t { rights = join t.rights (meet m.rights rights) }) h)
  lawful_widened = lawful_grown h after l (record {
    sorted = sorted_put target wider h l.sorted;
    some = λ p v is. some p v (cases p v is);
    origin = origin_after;
    still = λ p v is. let s = still p v is in record { held = s.now; is = s.is; frame = s.frame; origin = s.from };
    new = λ p v is gone. new p v (cases p v is) gone;
  })
    where
      some : (p : Place) (v : Held) → ((p ≡ target) × (v ≡ wider)) ⊎ ((same_place p target ≡ false) × (at h p ≡ Some v)) → is_empty v.rights ≡ false
      some p v (inl (same, one)) = ap (λ x. is_empty x.rights) one ∙ larger_not_empty t.rights wider.rights larger (l.some target t there)
      some p v (inr (apart, old)) = l.some p v old

      new : (p : Place) (v : Held) → ((p ≡ target) × (v ≡ wider)) ⊎ ((same_place p target ≡ false) × (at h p ≡ Some v)) → at h p ≡ None → (o : Place) × (v.origin ≡ Some o) × (n : Held) × (at h o ≡ Some n)
      new p v (inl (same, one)) gone = absurd (cc (gone, there, ap (at h) same))
      new p v (inr (apart, old)) gone = absurd (cc (old, gone))

-- ---- the holdings of one page

module _ (h : Holdings) (rights : Rights) (t : Transfer) where
  abbrev the_job : Job
  the_job = record { kind = Map; rights = rights; pairs = [] }

  pub lost_left : at h t.source ≡ None → h ≡ map_pair h the_job (pair_of t) (fate_in t) h
  lost_left none = by t.extends
    where
      by : (b : Bool) → h ≡ map_pair h the_job (pair_of t) (if b then extends else goes) h
      by true = rw none refl
      by false = rw none refl

-- ---- a page that extends

-- words and trees after one page of a MapItem
pub record IsWorked (limits : Limits) (old new : Shards) (trees new_trees : List Shape) (rights : Rights) (t : Transfer) : Type 0 where
  pub left : holdings_of limits new new_trees ≡ map_pair (holdings_of limits old trees) (record { kind = Map; rights = rights; pairs = [] }) (pair_of t) (fate_in t) (holdings_of limits old trees)
  pub stays_sound : IsSound limits new new_trees

-- the same limits
pub same_limits : (old new : Shards) (trees new_trees : List Shape) → IsLaidOutAs old new → length new_trees ≡ length trees → limits_in new new_trees ≡ limits_in old trees
same_limits old new trees new_trees layout count = λ i. record { spaces = layout.spaces i; bits = layout.bits i; frames = count i }

-- by the limits of the new words and trees
module _ (old new : Shards) (trees new_trees : List Shape) (rights : Rights) (t : Transfer) (w : IsWorked (limits_in old trees) old new trees new_trees rights t) (same : limits_in new new_trees ≡ limits_in old trees) where
  pub worked_left : holdings_in new new_trees ≡ map_pair (holdings_in old trees) (record { kind = Map; rights = rights; pairs = [] }) (pair_of t) (fate_in t) (holdings_in old trees)
  worked_left = ap (λ limits. holdings_of limits new new_trees) same ∙ w.left

  pub worked_sound : AreSound new new_trees
  worked_sound = subst (λ limits. IsSound limits new new_trees) (sym same) w.stays_sound

module _ (limits : Limits) (old new : Shards) (trees : List Shape) (rights : Rights) (t : Transfer) (e : Entry) (sound : IsSound limits old trees) (source_within : IsWithin limits t.source) (target_within : IsWithin limits t.target)
    (ready : IsReady (holdings_of limits old trees) rights t) (stood : entry_at old t.source ≡ Some e) (extending : t.extends ≡ true)
    (w : IsWordSet old new t.target (option_map (word.extended (meet e.rights rights)) (entry_at old t.target))) where
  abbrev the_holdings : Holdings
  the_holdings = holdings_of limits old trees

  pub page_extended : IsWorked limits old new trees trees rights t
  page_extended = by (entry_at old t.target) refl
    where
      held : at the_holdings t.source ≡ Some (held_of trees t.source e)
      held = present_within limits old trees t.source source_within e stood

      elsewhere : (p : Place) → IsWithin limits p → same_place p t.target ≡ false → held_at new trees p ≡ held_at old trees p
      elsewhere p within apart = held_elsewhere old new trees t.target _ w.set p (place_within limits old trees sound.kept.fits p within) apart

      by : (o : Option Entry) → entry_at old t.target ≡ o → IsWorked limits old new trees trees rights t
      by None none = let d = ready.derived (held_of trees t.source e) extending held in absurd (cc (d.1, absent_within limits old trees t.target target_within none))
      by (Some k) is =
          let there : at the_holdings t.target ≡ Some (held_of trees t.target k) = present_within limits old trees t.target target_within k is in
          let entry : entry_at new t.target ≡ Some (word.extended (meet e.rights rights) k) = w.set.there ∙ ap (option_map (word.extended (meet e.rights rights))) is in
          let here : held_at new trees t.target ≡ Some (extended (record { kind = Map; rights = rights; pairs = [] }) (held_of trees t.source e) (held_of trees t.target k)) = ap (option_map (held_of trees t.target)) entry in
          let left = listing_put limits (held_at old trees) (held_at new trees) t.target (extended (record { kind = Map; rights = rights; pairs = [] }) (held_of trees t.source e) (held_of trees t.target k)) target_within here elsewhere in
          let d = ready.derived (held_of trees t.source e) extending held in
          let one : d.0 ≡ held_of trees t.target k = same_Some d.0 (held_of trees t.target k) (sym d.1 ∙ there) in
          let origin = ap (λ x. x.origin) (sym one) ∙ d.2 in
          let lawful = lawful_widened the_holdings (lawful_parts the_holdings sound.kept.lawful) t.source t.target (held_of trees t.source e) (held_of trees t.target k) rights held there origin in
          record {
            left = left ∙ rw (extending, held, there) refl;
            stays_sound = sound_set limits old new trees t.target _ w (word.extended (meet e.rights rights) k) (ap (option_map (word.extended (meet e.rights rights))) is) (ap (has_frame k.frame) is ∙ eq-eqb k.frame k.frame refl) sound
                (ap is_lawful left ∙ lawful_from _ lawful);
          }

-- ---- a page that is linked

module _ (limits : Limits) (old new : Shards) (trees new_trees : List Shape) (rights : Rights) (t : Transfer) (e : Entry) (sound : IsSound limits old trees) (source_within : IsWithin limits t.source) (target_within : IsWithin limits t.target)
    (ready : IsReady (holdings_of limits old trees) rights t) (stood : entry_at old t.source ≡ Some e) (going : t.extends ≡ false) where
  -- its target is free
  pub target_word : entry_at old t.target ≡ None
  target_word = word_free limits old trees t.target target_within (ap is_some (ready.free going))

  pub target_unlisted : is_listed trees e.frame t.target ≡ false
  target_unlisted = unlisted limits old trees t.target target_within (ap is_some (ready.free going)) sound.pruned e.frame

  module _ (is : IsLinked old new trees new_trees t.source t.target (linked_entry e rights)) where
    page_mapped : IsMapped old new trees new_trees t.source t.target e rights
    page_mapped = record {
      links = is.links;
      word = record { set = is.set; present = is.present; layout = is.layout };
      tree = is.tree;
      derived = is.derived;
      stood = stood;
      free = target_word;
      some = ready.some (held_of trees t.source e) (present_within limits old trees t.source source_within e stood);
    }

    pub page_linked : IsWorked limits old new trees new_trees rights t
    page_linked =
        let held = present_within limits old trees t.source source_within e stood in
        record {
          left = mapped_holdings limits old new trees new_trees t.source t.target e rights sound source_within target_within page_mapped ∙ rw (going, held) refl;
          stays_sound = mapped_sound limits old new trees new_trees t.source t.target e rights sound source_within target_within page_mapped;
        }
