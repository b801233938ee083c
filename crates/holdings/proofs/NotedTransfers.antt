-- Notes follow a map or a move that changes nothing but the ends of transfers.
use Rattle.std.proofs.Common.{◌≡◌, ℕ, ◌+◌, ◌<◌, true, false, Bool, ◌&&◌, ◌||◌, not, if◌then◌else◌, List, [], ◌∷◌, length, take, get_or, Option, Some, None, is_some, refl, sym, ap, ◌∙◌, subst, ◌⊎◌, inl, inr}
use Rattle.std.specs.Option.{option_map}
use Rattle.std.proofs.lemmas.Bool.{or_parts}
use Rattle.std.proofs.lemmas.List.{take_more}
use Rattle.std.proofs.lemmas.List.Folds.{list_any-append}
use Rattle.std.proofs.Math.Bool.{or-false}
use Rattle.fpage.specs.declared.item.ItemKind.{ItemKind}
use Rattle.fpage.specs.declared.item.ItemKind.TheVariants.{Map, Grant}
use Rattle.fpage.specs.declared.rights.Rights.{Rights}
use Rattle.space.specs.declared.place.Place.{Place}
use Rattle.space.specs.Place.{same_place}
use Rattle.space.proofs.Places.{same_self, same_or_apart}
use Rattle.model.specs.Definitions.Changes.{entry_for, tables_of}
use Rattle.model.specs.Definitions.Grant.{moved, moved_to, renamed}
use Rattle.model.specs.Definitions.Holdings.{Held, Holdings, at, is_held}
use Rattle.model.specs.Definitions.Items.{Job, Pair, extends, goes, sources_of}
use Rattle.model.specs.Definitions.Map.{map_pair, link, extend, linked, extended}
use Rattle.model.specs.Laws.SendLaws.{In}
use Rattle.model.proofs.Puts.{apart_places, put_here, put_elsewhere}
use Rattle.model.proofs.Lookups.{first_held}
use Rattle.model.proofs.Renames.{moved_cases}
use Rattle.holdings.specs.Contents.{Contents, AreMapped, AreMoved}
use Rattle.holdings.specs.Inner.Notes.{NotesAdd, AreAdded, AreEndsReady, IsEndReady, has_ends, is_end, ends_of}
use Rattle.holdings.specs.Noting.{NotesFollow}
use Rattle.holdings.specs.Sending.{AllGo, AreFree, AreReady, IsReady, fate_in, map_transfers, moving_of, pair_of}
use Rattle.holdings.specs.NoteContents.{NoteContent}
use Rattle.holdings.specs.declared.notes.Notes.{Notes}
use Rattle.holdings.specs.declared.transfer.Transfer.{Transfer}
use Rattle.holdings.specs.declared.transfer_counts.TransferCounts.{TransferCounts}
use Rattle.holdings.proofs.NotedPages.{added_same, none_added, set_follow}

-- ---- what is noted

-- the pages of one transfer more
pub transfer_more : (h : Holdings) (kind : ItemKind) (ts : List Transfer) (i : ℕ) (d : Transfer) → i < length ts → (p : Place) → (ends_of h kind (take i ts) p || is_end h kind p (get_or ts i d)) ≡ ends_of h kind (take (i + 1) ts) p
transfer_more h kind ts i d within p =
    ap (λ b. ends_of h kind (take i ts) p || b) (sym (or-false (is_end h kind p (get_or ts i d))))
    ∙ sym (list_any-append (is_end h kind p) (take i ts) (get_or ts i d ∷ [])) ∙ ap (λ xs. ends_of h kind xs p) (sym (take_more ts i d within))

-- a transfer that is not noted
pub lost_noted : (h : Holdings) (kind : ItemKind) (t : Transfer) → has_ends h kind t ≡ false → (list : List NoteContent) → AreAdded h (λ q. is_end h kind q t) list list
lost_noted h kind t lost list = added_same h (λ q. false) (λ q. is_end h kind q t) list list (λ q. by kind lost q) (none_added h list)
  where
    by : (k : ItemKind) → has_ends h k t ≡ false → (q : Place) → false ≡ is_end h k q t
    by Map lost q = sym (ap (λ b. b && same_place q t.target) lost)
    by Grant lost q = sym (ap (λ b. b && (same_place q t.target || same_place q t.source)) lost)

-- ---- who is ready

pub ready_to_map : (h : Holdings) (rights : Rights) (ts : List Transfer) → AreReady h rights ts → AreEndsReady h ts
ready_to_map h rights ts ready i d within = by (get_or ts i d) (ready i d within)
  where
    by : (t : Transfer) → IsReady h rights t → IsEndReady h t
    by t ready kind noted = choose t.extends refl (at h t.source) refl
      where
        -- where it extends, its source is held
        held : (k : ItemKind) → has_ends h k t ≡ true → t.extends ≡ true → is_held h t.source ≡ true
        held Map noted is = sym (ap (λ b. not b || is_held h t.source) is) ∙ noted
        held Grant noted is = noted

        choose : (e : Bool) → t.extends ≡ e → (o : Option Held) → at h t.source ≡ o → is_held h t.target ≡ t.extends
        choose false is o source = ap is_some (ready.free is) ∙ sym is
        choose true is None none = absurd (cc (ap is_some none, held kind noted is))
        choose true is (Some m) some = let k = ready.derived m is some in ap is_some k.1 ∙ sym is

pub ready_to_move : (h : Holdings) (ts : List Transfer) → AllGo ts → AreFree h ts → AreEndsReady h ts
ready_to_move h ts all_go free i d within kind noted = ap is_some (free i d within) ∙ sym (all_go i d within)

-- ---- what is changed

-- no target is among the pairs that are mapped
module _ (h : Holdings) (job : Job) (p : Place) where
  one_kept : (t : Transfer) → (has_ends h Map t && same_place p t.target) ≡ false → (acc : Holdings) → at (map_pair h job (pair_of t) (fate_in t) acc) p ≡ at acc p
  one_kept t none acc = choose t.extends none
    where
      by_link : (o : Option Held) → same_place p t.target ≡ false → at (link job (pair_of t) o acc) p ≡ at acc p
      by_link None apart = refl
      by_link (Some m) apart = put_elsewhere p t.target (linked job t.source m) acc apart

      by_extend : (o k : Option Held) → (is_some o && same_place p t.target) ≡ false → at (extend job (pair_of t) o k acc) p ≡ at acc p
      by_extend None k none = refl
      by_extend (Some m) None none = refl
      by_extend (Some m) (Some k) none = put_elsewhere p t.target (extended job m k) acc none

      choose : (e : Bool) → ((not e || is_held h t.source) && same_place p t.target) ≡ false → at (map_pair h job (pair_of t) (if e then extends else goes) acc) p ≡ at acc p
      choose true none = by_extend (at h t.source) (at h t.target) none
      choose false apart = by_link (at h t.source) apart

  all_kept : (ts : List Transfer) → ends_of h Map ts p ≡ false → (acc : Holdings) → at (map_transfers h job ts acc) p ≡ at acc p
  all_kept [] none acc = refl
  all_kept (t ∷ ts) none acc =
      let parts = or_parts (is_end h Map p t) (ends_of h Map ts p) none in
      all_kept ts parts.1 (map_pair h job (pair_of t) (fate_in t) acc) ∙ one_kept t parts.0 acc

pub map_keeps : (h : Holdings) (rights : Rights) (ts : List Transfer) (p : Place) → ends_of h Map ts p ≡ false → tables_of (map_transfers h (record { kind = Map; rights = rights; pairs = [] }) ts h) p ≡ tables_of h p
map_keeps h rights ts p none = ap (option_map entry_for) (all_kept h (record { kind = Map; rights = rights; pairs = [] }) p ts none h)

-- a place that no pair moves, and to which none moves, keeps what it has
module _ (es : List Pair) (p : Place) (no_source : (e : Pair) → In e es → e.0 ≡ p → ⊥) (no_target : (e : Pair) → In e es → e.1 ≡ p → ⊥) where
  stays : moved_to es p ≡ p
  stays = by (moved_cases es p)
    where
      by : ((e : Pair) × In e es × (e.0 ≡ p) × (moved_to es p ≡ e.1)) ⊎ ((sources_of es p ≡ false) × (moved_to es p ≡ p)) → moved_to es p ≡ p
      by (inl (e, there, same, to)) = absurd (no_source e there same)
      by (inr (none, is)) = is

  comes_from : (q : Place) → moved_to es q ≡ p → q ≡ p
  comes_from q to = by (moved_cases es q)
    where
      by : ((e : Pair) × In e es × (e.0 ≡ q) × (moved_to es q ≡ e.1)) ⊎ ((sources_of es q ≡ false) × (moved_to es q ≡ q)) → q ≡ p
      by (inl (e, there, same, is)) = absurd (no_target e there (sym is ∙ to))
      by (inr (none, is)) = sym is ∙ to

  kept : (h : Holdings) → tables_of (renamed es h) p ≡ tables_of h p
  kept [] = refl
  kept (e ∷ h) = by (same_or_apart p e.0) (kept h)
    where
      by : (p ≡ e.0) ⊎ (same_place p e.0 ≡ false) → tables_of (renamed es h) p ≡ tables_of h p → tables_of (renamed es (e ∷ h)) p ≡ tables_of (e ∷ h) p
      by (inl same) rest =
          let to : p ≡ moved_to es e.0 = sym (ap (moved_to es) (sym same) ∙ stays) in
          ap (option_map entry_for) (ap (at (renamed es (e ∷ h))) to ∙ put_here (moved_to es e.0) (moved es e.0 e.1) (renamed es h))
          ∙ sym (ap (option_map entry_for) (ap (at (e ∷ h)) same ∙ first_held e h))
      by (inr apart) rest =
          let differ : same_place p (moved_to es e.0) ≡ false = apart_places p (moved_to es e.0) (λ same. cc (apart, ap (same_place p) (comes_from e.0 (sym same)), same_self p)) in
          let further : at (e ∷ h) p ≡ at h p = rw apart refl in
          ap (option_map entry_for) (put_elsewhere p (moved_to es e.0) (moved es e.0 e.1) (renamed es h) differ) ∙ rest ∙ sym (ap (option_map entry_for) further)

-- no end is among the pairs that move
module _ (h : Holdings) (p : Place) where
  no_end : (ts : List Transfer) → ends_of h Grant ts p ≡ false → (e : Pair) → In e (moving_of h ts) → (same_place p e.1 || same_place p e.0) ≡ false
  no_end [] none e there = absurd there
  no_end (t ∷ ts) none e there = by (is_held h t.source) parts.0 there (no_end ts parts.1 e)
    where
      parts : (is_end h Grant p t ≡ false) × (ends_of h Grant ts p ≡ false)
      parts = or_parts (is_end h Grant p t) (ends_of h Grant ts p) none

      by : (b : Bool) → (b && (same_place p t.target || same_place p t.source)) ≡ false → In e (if b then pair_of t ∷ moving_of h ts else moving_of h ts)
          → (In e (moving_of h ts) → (same_place p e.1 || same_place p e.0) ≡ false) → (same_place p e.1 || same_place p e.0) ≡ false
      by true neither (inl here) rest = subst (λ (x : Pair). (same_place p x.1 || same_place p x.0) ≡ false) (sym here) neither
      by true neither (inr later) rest = rest later
      by false neither later rest = rest later

pub move_keeps : (h : Holdings) (ts : List Transfer) (p : Place) → ends_of h Grant ts p ≡ false → tables_of (renamed (moving_of h ts) h) p ≡ tables_of h p
move_keeps h ts p none =
    kept (moving_of h ts) p
    (λ e there same. let neither = or_parts (same_place p e.1) (same_place p e.0) (no_end h p ts none e there) in cc (neither.1, ap (same_place p) same, same_self p))
    (λ e there same. let neither = or_parts (same_place p e.1) (same_place p e.0) (no_end h p ts none e there) in cc (neither.0, ap (same_place p) same, same_self p))
    h

-- ---- the notes follow

pub mapped_follow : (old : Contents) (ts : List Transfer) (rights : Rights) (r : Contents × TransferCounts) (n m : Notes) → NotesAdd (AreAdded old.holdings (ends_of old.holdings Map ts)) n m → AreMapped old ts rights r → NotesFollow old.holdings r.0.holdings n m
mapped_follow old ts rights r n m added is =
    subst (λ (h : Holdings). NotesFollow old.holdings h n m) (sym (ap (λ (c : Contents). c.holdings) is.left))
    (set_follow old.holdings (map_transfers old.holdings (record { kind = Map; rights = rights; pairs = [] }) ts old.holdings) (ends_of old.holdings Map ts) n m added (λ p none. map_keeps old.holdings rights ts p none))

pub moved_follow : (old : Contents) (ts : List Transfer) (r : Contents × TransferCounts) (n m : Notes) → NotesAdd (AreAdded old.holdings (ends_of old.holdings Grant ts)) n m → AreMoved old ts r → NotesFollow old.holdings r.0.holdings n m
moved_follow old ts r n m added is =
    subst (λ (h : Holdings). NotesFollow old.holdings h n m) (sym (ap (λ (c : Contents). c.holdings) is.left))
    (set_follow old.holdings (renamed (moving_of old.holdings ts) old.holdings) (ends_of old.holdings Grant ts) n m added (λ p none. move_keeps old.holdings ts p none))
