-- The words of a MapItem, page by page, beside trees that have all its new mappings: as if each tree gained them one by one.
use Rattle.std.proofs.Common.{◌≡◌, ℕ, zero, suc, ◌+◌, ◌<◌, ◌≤◌, ◌==◌, true, false, Bool, ◌||◌, ◌&&◌, List, [], ◌∷◌, length, drop, get_or, Option, Some, None, refl, sym, ap, ◌∙◌, subst, arith, ◌⊎◌, inl, inr, if◌then◌else◌, cond}
use Rattle.std.specs.Prelude.{count_by, insert, slice_set}
use Rattle.std.specs.List.{All}
use Rattle.std.specs.Option.{option_map, is_some}
use Rattle.std.proofs.lemmas.Bool.{eq-eqb, eqb-true, cases_eq, false_from_ne_true}
use Rattle.std.proofs.lemmas.List.{drop_more, drop_all}
use Rattle.std.proofs.lemmas.List.Sums.{sum_by-cons}
use Rattle.std.proofs.lemmas.List.Elements.{All-nil, All-cons, All-head, All-tail}
use Rattle.fpage.specs.declared.rights.Rights.{Rights}
use Rattle.fpage.specs.declared.item.ItemKind.TheVariants.{Map}
use Rattle.fpage.specs.Rights.{no_rights, meet}
use Rattle.space.specs.declared.place.Place.{Place}
use Rattle.space.specs.declared.place.Entry.{Entry}
use Rattle.space.specs.declared.shards.Shards.{Shards}
use Rattle.space.specs.Place.{same_place}
use Rattle.space.specs.Shards.{IsPlace, IsSetAt, entry_at}
use Rattle.space.proofs.Places.{same_or_apart, apart_back}
use Rattle.maptree.specs.Origins.{Origins, Shape, origin_in}
use Rattle.model.specs.Definitions.Holdings.{Holdings, at}
use Rattle.model.specs.Definitions.Calls.{Limits}
use Rattle.model.specs.Definitions.Lawful.{is_lawful}
use Rattle.model.specs.Definitions.Map.{map_pair}
use Rattle.holdings.specs.declared.link.Link.{Link}
use Rattle.holdings.specs.declared.transfer.Transfer.{Transfer}
use Rattle.holdings.specs.Inner.Derivation.{stands_in, IsDerived}
use Rattle.holdings.specs.Places.{IsWithin, listing}
use Rattle.holdings.specs.Inner.Held.{links_in, is_listed, held_of, held_at, layout_in, limits_in, holdings_in}
use Rattle.space.specs.Entries as word
use Rattle.holdings.specs.Contents.{entry_of}
use Rattle.holdings.specs.Inner.Sound.{AreSound, IsSound}
use Rattle.holdings.specs.Sending.{IsTransferWithin, ArePaired, ArePlanned, IsReady, fate_in, pair_of, map_transfers}
use Rattle.holdings.specs.Inner.Links.{IsTreeSet, link_of, links_of, is_new_of, AreLinked, AreLinkable, IsPageMapped}
use Rattle.holdings.proofs.Contents.Listing.{listing_same}
use Rattle.holdings.proofs.Trees.Positions.{derived_below}
use Rattle.holdings.proofs.Contents.Layouts.{same_layout}
use Rattle.holdings.proofs.Contents.Holders.{place_within, absent_within, present_within, entry_within}
use Rattle.holdings.proofs.Links.NewMappings.{tree_set, unlisted}
use Rattle.holdings.proofs.Maps.MapPages.{IsWorked, same_limits, worked_left, worked_sound, lost_left, page_extended, target_unlisted, page_linked}
use Rattle.holdings.proofs.Maps.MapAll.{AreMapped, agree_here, ready_now, none_mapped, one_mapped, all_mapped}
use Rattle.holdings.proofs.Links.LinkedTrees.{no_transfer}

-- ---- trees that have the same places with the same origins

module _ (shards : Shards) (trees ahead : List Shape) (linked : AreLinked [] trees ahead) where
  limits_same : limits_in shards ahead ≡ limits_in shards trees
  limits_same = λ i. record { spaces = (limits_in shards trees).spaces; bits = (limits_in shards trees).bits; frames = linked.count i }

  held_same : (p : Place) → held_at shards ahead p ≡ held_at shards trees p
  held_same p = by (entry_at shards p)
    where
      by : (o : Option Entry) → option_map (held_of ahead p) o ≡ option_map (held_of trees p) o
      by None = refl
      by (Some e) = ap (λ o. Some (record { frame = e.frame; rights = e.rights; status = e.status; origin = o })) (linked.elsewhere e.frame p refl)

  pub ahead_holdings : holdings_in shards ahead ≡ holdings_in shards trees
  ahead_holdings =
      ap (λ (limits : Limits). listing limits (held_at shards ahead)) limits_same
      ∙ listing_same (limits_in shards trees) (held_at shards ahead) (held_at shards trees) (λ p _. held_same p)

  pub ahead_sound : AreSound shards trees → AreSound shards ahead
  ahead_sound sound = subst (λ limits. IsSound limits shards ahead) (sym limits_same) (record {
    kept = record {
      fits = record {
        served = sound.kept.fits.served;
        spaces = sound.kept.fits.spaces;
        bits = sound.kept.fits.bits;
        present = sound.kept.fits.present;
        some = sound.kept.fits.some;
        count = linked.count ∙ sound.kept.fits.count;
        frame = sound.kept.fits.frame;
        listed = λ p e within is. linked.stands e.frame p ∙ sound.kept.fits.listed p e within is;
      };
      lawful = ap is_lawful (listing_same (limits_in shards trees) (held_at shards ahead) (held_at shards trees) (λ p _. held_same p)) ∙ sound.kept.lawful;
    };
    pruned = record {
      within = λ f p listed. sound.pruned.within f p (sym (linked.stands f p) ∙ listed);
      held = λ f p listed. sound.pruned.held f p (sym (linked.stands f p) ∙ listed);
    };
  })

-- ---- a tree gains the first of what others have already

module _ (l : Link) (ls : List Link) (trees next ahead : List Shape) (links : Origins) (linked : AreLinked (l ∷ ls) trees ahead) (set : IsTreeSet trees next l.frame links) (derived : IsDerived (links_in trees l.frame) links l.source l.target) where
  other_frame : (f : ℕ) → (f ≡ l.frame → ⊥) → (l.frame == f) ≡ false
  other_frame f differ = false_from_ne_true _ (λ is. differ (sym (eqb-true l.frame f is)))

  here : (p : Place) → is_new_of (l ∷ ls) l.frame p ≡ (same_place p l.target || is_new_of ls l.frame p)
  here p = ap (λ b. (b && same_place p l.target) || is_new_of ls l.frame p) (eq-eqb l.frame l.frame refl)

  elsewhere : (f : ℕ) (p : Place) → (f ≡ l.frame → ⊥) → is_new_of (l ∷ ls) f p ≡ is_new_of ls f p
  elsewhere f p differ = ap (λ b. (b && same_place p l.target) || is_new_of ls f p) (other_frame f differ)

  pub one_ahead : AreLinked ls next ahead
  one_ahead = record {
    count = linked.count ∙ sym set.count;
    stands = λ f p. stands f p (cases_eq f l.frame);
    elsewhere = λ f p none. origins f p none (cases_eq f l.frame) (same_or_apart p l.target);
    there = All-tail (λ m. origin_in (links_in ahead m.frame) m.target ≡ Some m.source) l ls linked.there;
  }
    where
      swap : (a b c : Bool) → ((a || b) || c) ≡ (b || (a || c))
      swap a b c = grind arith

      at_frame : (p : Place) → is_listed ahead l.frame p ≡ (is_new_of ls l.frame p || is_listed next l.frame p)
      at_frame p =
          linked.stands l.frame p ∙ ap (λ b. b || is_listed trees l.frame p) (here p) ∙ swap (same_place p l.target) (is_new_of ls l.frame p) (is_listed trees l.frame p)
          ∙ ap (λ b. is_new_of ls l.frame p || b) (sym (ap (λ (os : Origins). stands_in os p) set.there ∙ derived.stands p))

      stands : (f : ℕ) (p : Place) → (f ≡ l.frame) ⊎ (f ≡ l.frame → ⊥) → is_listed ahead f p ≡ (is_new_of ls f p || is_listed next f p)
      stands f p (inl same) = subst (λ g. is_listed ahead g p ≡ (is_new_of ls g p || is_listed next g p)) (sym same) (at_frame p)
      stands f p (inr differ) =
          linked.stands f p ∙ ap (λ b. b || is_listed trees f p) (elsewhere f p differ) ∙ ap (λ b. is_new_of ls f p || b) (sym (ap (λ (os : Origins). stands_in os p) (set.elsewhere f differ)))

      from_frame : (p : Place) → is_new_of ls l.frame p ≡ false → (p ≡ l.target) ⊎ (same_place p l.target ≡ false) → origin_in (links_in ahead l.frame) p ≡ origin_in (links_in next l.frame) p
      from_frame p none (inl same) =
          ap (origin_in (links_in ahead l.frame)) same ∙ All-head (λ m. origin_in (links_in ahead m.frame) m.target ≡ Some m.source) l ls linked.there
          ∙ sym derived.there ∙ sym (ap (λ os. origin_in os l.target) set.there) ∙ ap (origin_in (links_in next l.frame)) (sym same)
      from_frame p none (inr apart) =
          linked.elsewhere l.frame p (here p ∙ ap (λ b. b || is_new_of ls l.frame p) apart ∙ none) ∙ sym (derived.elsewhere p apart) ∙ sym (ap (λ os. origin_in os p) set.there)

      origins : (f : ℕ) (p : Place) → is_new_of ls f p ≡ false → (f ≡ l.frame) ⊎ (f ≡ l.frame → ⊥) → (p ≡ l.target) ⊎ (same_place p l.target ≡ false) → origin_in (links_in ahead f) p ≡ origin_in (links_in next f) p
      origins f p none (inl same) which =
          subst (λ g. origin_in (links_in ahead g) p ≡ origin_in (links_in next g) p) (sym same) (from_frame p (ap (λ g. is_new_of ls g p) (sym same) ∙ none) which)
      origins f p none (inr differ) which = linked.elsewhere f p (elsewhere f p differ ∙ none) ∙ sym (ap (λ os. origin_in os p) (set.elsewhere f differ))

-- ---- the pages so far

-- as if the trees had gained the new mappings of the pages so far
pub record AreAhead (first : Shards) (limits : Limits) (h : Holdings) (rights : Rights) (ts : List Transfer) (i : ℕ) (shards : Shards) (ahead : List Shape) : Type 0 where
  pub trees : List Shape
  pub from : ℕ
  pub to : ℕ
  pub differ : from ≡ to → ⊥
  pub are : AreMapped limits h rights from to ts i shards trees
  pub linked : AreLinked (links_of first (drop i ts)) trees ahead
  pub layout : layout_in shards ≡ layout_in first

module _ (first : Shards) (first_trees : List Shape) (rights : Rights) (ts : List Transfer) (i : ℕ) (within : i < length ts) (shards : Shards) (ahead : List Shape)
    (planned : ArePlanned (limits_in first first_trees) ts) (ready : All (IsReady (holdings_in first first_trees) rights) ts)
    (so_far : AreAhead first (limits_in first first_trees) (holdings_in first first_trees) rights ts i shards ahead) where
  abbrev t : Transfer
  t = get_or ts i no_transfer

  abbrev rest : List Link
  rest = links_of first (drop (i + 1) ts)

  abbrev h : Holdings
  h = holdings_in first first_trees

  abbrev now : Holdings
  now = holdings_in shards so_far.trees

  sound : AreSound shards so_far.trees
  sound = so_far.are.sound

  transfer_within : IsTransferWithin (limits_in shards so_far.trees) t
  transfer_within = subst (λ (limits : Limits). IsTransferWithin limits t) (sym so_far.are.same_limits) (planned.within i no_transfer within)

  pub source_within : IsWithin (limits_in shards so_far.trees) t.source
  source_within = record { space = transfer_within.source_space; page = transfer_within.source_page }

  pub target_within : IsWithin (limits_in shards so_far.trees) t.target
  target_within = record { space = transfer_within.target_space; page = transfer_within.target_page }

  pub source_place : IsPlace shards t.source
  source_place = place_within (limits_in shards so_far.trees) shards so_far.trees sound.kept.fits t.source source_within

  pub target_place : IsPlace shards t.target
  target_place = place_within (limits_in shards so_far.trees) shards so_far.trees sound.kept.fits t.target target_within

  agree : (at now t.source ≡ at h t.source) × (at now t.target ≡ at h t.target)
  agree = agree_here (limits_in first first_trees) h rights so_far.from so_far.to so_far.differ ts i no_transfer within shards so_far.trees so_far.are

  pub ready_here : IsReady now rights t
  ready_here = ready_now h now rights t agree (ready i no_transfer within)

  -- the source holds what it held
  pub stood_first : entry_at first t.source ≡ entry_at shards t.source
  stood_first =
      let w = planned.within i no_transfer within in
      sym (entry_within (limits_in first first_trees) first first_trees t.source (record { space = w.source_space; page = w.source_page }))
      ∙ ap (option_map entry_of) (sym agree.0) ∙ entry_within (limits_in shards so_far.trees) shards so_far.trees t.source source_within

  linked_now : AreLinked (link_of t (entry_at shards t.source) rest) so_far.trees ahead
  linked_now = subst (λ o. AreLinked (link_of t o rest) so_far.trees ahead) stood_first (subst (λ xs. AreLinked (links_of first xs) so_far.trees ahead) (drop_more ts i no_transfer within) so_far.linked)

  next : (new : Shards) (trees : List Shape) → AreSound new trees → limits_in new trees ≡ limits_in shards so_far.trees
      → holdings_in new trees ≡ map_pair now (record { kind = Map; rights = rights; pairs = [] }) (pair_of t) (fate_in t) now → AreLinked rest trees ahead → layout_in new ≡ layout_in shards
      → AreAhead first (limits_in first first_trees) h rights ts (i + 1) new ahead
  next new trees is_sound same left linked layout = record {
    trees = trees;
    from = so_far.from;
    to = so_far.to;
    differ = so_far.differ;
    are = one_mapped (limits_in first first_trees) h rights so_far.from so_far.to so_far.differ ts i no_transfer within shards so_far.trees so_far.are new trees is_sound same left;
    linked = linked;
    layout = layout ∙ so_far.layout;
  }

  pub page_lost : (new : Shards) → entry_at shards t.source ≡ None → new ≡ shards → AreAhead first (limits_in first first_trees) h rights ts (i + 1) new ahead
  page_lost new none same =
      let gone = absent_within (limits_in shards so_far.trees) shards so_far.trees t.source source_within none in
      subst (λ s. AreAhead first (limits_in first first_trees) h rights ts (i + 1) s ahead) (sym same)
      (next shards so_far.trees sound refl (lost_left now rights t gone) (subst (λ o. AreLinked (link_of t o rest) so_far.trees ahead) none linked_now) refl)

  module _ (new : Shards) (e : Entry) (stood : entry_at shards t.source ≡ Some e) (page : IsPageMapped shards new rights t e) where
    held : at now t.source ≡ Some (held_of so_far.trees t.source e)
    held = present_within (limits_in shards so_far.trees) shards so_far.trees t.source source_within e stood

    linked_with : AreLinked (link_of t (Some e) rest) so_far.trees ahead
    linked_with = subst (λ o. AreLinked (link_of t o rest) so_far.trees ahead) stood linked_now

    extending : t.extends ≡ true → AreAhead first (limits_in first first_trees) h rights ts (i + 1) new ahead
    extending is =
        let w : IsWorked (limits_in shards so_far.trees) shards new so_far.trees so_far.trees rights t =
        page_extended (limits_in shards so_far.trees) shards new so_far.trees rights t e sound source_within target_within ready_here stood is
        (record { set = subst (IsSetAt shards new t.target) (ap (λ b. if b then option_map (word.extended (meet e.rights rights)) (entry_at shards t.target) else Some (linked_word e)) is) page.set; present = page.present; layout = page.layout }) in
        let same = same_limits shards new so_far.trees so_far.trees page.layout refl in
        next new so_far.trees (worked_sound shards new so_far.trees so_far.trees rights t w same) same (worked_left shards new so_far.trees so_far.trees rights t w same)
        (subst (λ b. AreLinked (if b then rest else record { frame = e.frame; source = t.source; target = t.target } ∷ rest) so_far.trees ahead) is linked_with)
        (same_layout shards new page.layout)
      where
        linked_word : Entry → Entry
        linked_word e = record { frame = e.frame; rights = meet e.rights rights; status = no_rights }

    going : t.extends ≡ false → AreAhead first (limits_in first first_trees) h rights ts (i + 1) new ahead
    going is =
        let l : Link = record { frame = e.frame; source = t.source; target = t.target } in
        let old = links_in so_far.trees e.frame in
        let grown : Shape = record { links = insert old (0 + 1) (t.target, Some t.source); room = 0; gaps = [] } in
        let fits : e.frame < length so_far.trees = sound.kept.fits.frame t.source e source_within stood in
        let set = tree_set so_far.trees e.frame grown fits in
        let free = target_unlisted (limits_in shards so_far.trees) shards new so_far.trees (slice_set so_far.trees e.frame grown) rights t e sound source_within target_within ready_here stood is in
        let derived = derived_below old grown.links 0 t.source t.target free refl in
        let w : IsWorked (limits_in shards so_far.trees) shards new so_far.trees (slice_set so_far.trees e.frame grown) rights t =
        page_linked (limits_in shards so_far.trees) shards new so_far.trees (slice_set so_far.trees e.frame grown) rights t e sound source_within target_within ready_here stood is
        (record { links = grown.links; set = subst (IsSetAt shards new t.target) (ap (λ b. if b then option_map (word.extended (meet e.rights rights)) (entry_at shards t.target) else Some (record { frame = e.frame; rights = meet e.rights rights; status = no_rights })) is) page.set; present = page.present; layout = page.layout; tree = set; derived = derived }) in
        let same = same_limits shards new so_far.trees (slice_set so_far.trees e.frame grown) page.layout set.count in
        next new (slice_set so_far.trees e.frame grown) (worked_sound shards new so_far.trees (slice_set so_far.trees e.frame grown) rights t w same) same (worked_left shards new so_far.trees (slice_set so_far.trees e.frame grown) rights t w same)
        (one_ahead l rest so_far.trees (slice_set so_far.trees e.frame grown) ahead grown.links
        (subst (λ b. AreLinked (if b then rest else l ∷ rest) so_far.trees ahead) is linked_with) set derived)
        (same_layout shards new page.layout)

    pub page_mapped : AreAhead first (limits_in first first_trees) h rights ts (i + 1) new ahead
    page_mapped = by t.extends refl
      where
        by : (b : Bool) → t.extends ≡ b → AreAhead first (limits_in first first_trees) h rights ts (i + 1) new ahead
        by true is = extending is
        by false is = going is

  pub one_page : (new : Shards) → (entry_at shards t.source ≡ None → new ≡ shards) → ((e : Entry) → entry_at shards t.source ≡ Some e → IsPageMapped shards new rights t e)
      → AreAhead first (limits_in first first_trees) h rights ts (i + 1) new ahead
  one_page new lost mapped = by (entry_at shards t.source) refl
    where
      by : (o : Option Entry) → entry_at shards t.source ≡ o → AreAhead first (limits_in first first_trees) h rights ts (i + 1) new ahead
      by None is = page_lost new is (lost is)
      by (Some e) is = page_mapped new e is (mapped e is)

-- ---- the new mappings can be put into the trees

module _ (shards : Shards) where
  -- what holds of the new mapping of each transfer, holds of all
  links_all : (P : Link → Type 0) (ts : List Transfer)
      → ((i : ℕ) (e : Entry) → i < length ts → (get_or ts i no_transfer).extends ≡ false → entry_at shards (get_or ts i no_transfer).source ≡ Some e → P (record { frame = e.frame; source = (get_or ts i no_transfer).source; target = (get_or ts i no_transfer).target }))
      → All P (links_of shards ts)
  links_all P [] each = All-nil P
  links_all P (t ∷ ts) each = by (entry_at shards t.source) refl t.extends refl (links_all P ts (λ i e within going stood. each (suc i) e (omega (arith, within)) going stood))
    where
      by : (o : Option Entry) → entry_at shards t.source ≡ o → (b : Bool) → t.extends ≡ b → All P (links_of shards ts) → All P (link_of t o (links_of shards ts))
      by None none b is rest = rest
      by (Some e) stood true is rest = subst (λ b. All P (if b then links_of shards ts else record { frame = e.frame; source = t.source; target = t.target } ∷ links_of shards ts)) (sym is) rest
      by (Some e) stood false is rest =
          subst (λ b. All P (if b then links_of shards ts else record { frame = e.frame; source = t.source; target = t.target } ∷ links_of shards ts)) (sym is)
          (All-cons P (record { frame = e.frame; source = t.source; target = t.target }) (links_of shards ts) (each 0 e (omega arith) is stood) rest)

  -- an end of transfers, and of their new mappings
  module _ (of_transfer : Transfer → Place) (of_link : Link → Place) (same : (t : Transfer) (e : Entry) → of_link (record { frame = e.frame; source = t.source; target = t.target }) ≡ of_transfer t) where
    none_of : (q : Place) (ts : List Transfer) → ((i : ℕ) → i < length ts → same_place q (of_transfer (get_or ts i no_transfer)) ≡ false) → count_by (λ l. same_place q (of_link l)) (links_of shards ts) ≡ 0
    none_of q [] apart = refl
    none_of q (t ∷ ts) apart = by (entry_at shards t.source) t.extends refl (none_of q ts (λ i within. apart (suc i) (omega (arith, within))))
      where
        by : (o : Option Entry) (b : Bool) → t.extends ≡ b → count_by (λ l. same_place q (of_link l)) (links_of shards ts) ≡ 0 → count_by (λ l. same_place q (of_link l)) (link_of t o (links_of shards ts)) ≡ 0
        by None b is rest = rest
        by (Some e) true is rest = ap (λ b. count_by (λ l. same_place q (of_link l)) (if b then links_of shards ts else record { frame = e.frame; source = t.source; target = t.target } ∷ links_of shards ts)) is ∙ rest
        by (Some e) false is rest =
            let whole : count_by (λ l. same_place q (of_link l)) (record { frame = e.frame; source = t.source; target = t.target } ∷ links_of shards ts) ≡ 0 + count_by (λ l. same_place q (of_link l)) (links_of shards ts) =
            sum_by-cons (λ (l : Link). cond (same_place q (of_link l)) 1 0) (record { frame = e.frame; source = t.source; target = t.target }) (links_of shards ts)
            ∙ ap (λ x. cond (same_place q x) 1 0 + count_by (λ l. same_place q (of_link l)) (links_of shards ts)) (same t e)
            ∙ ap (λ b. cond b 1 0 + count_by (λ l. same_place q (of_link l)) (links_of shards ts)) (apart 0 (omega arith)) in
            ap (λ b. count_by (λ l. same_place q (of_link l)) (if b then links_of shards ts else record { frame = e.frame; source = t.source; target = t.target } ∷ links_of shards ts)) is
            ∙ omega (arith, whole, rest)

    once_of : (q : Place) (ts : List Transfer) → ((i j : ℕ) → i < j → j < length ts → same_place (of_transfer (get_or ts j no_transfer)) (of_transfer (get_or ts i no_transfer)) ≡ false) → count_by (λ l. same_place q (of_link l)) (links_of shards ts) ≤ 1
    once_of q [] apart = omega arith
    once_of q (t ∷ ts) apart = by (entry_at shards t.source) t.extends refl (once_of q ts (λ i j less within. apart (suc i) (suc j) (omega (arith, less)) (omega (arith, within)))) (same_or_apart q (of_transfer t))
      where
        single : (e : Entry) → count_by (λ l. same_place q (of_link l)) (record { frame = e.frame; source = t.source; target = t.target } ∷ links_of shards ts) ≡ cond (same_place q (of_transfer t)) 1 0 + count_by (λ l. same_place q (of_link l)) (links_of shards ts)
        single e =
            sum_by-cons (λ (l : Link). cond (same_place q (of_link l)) 1 0) (record { frame = e.frame; source = t.source; target = t.target }) (links_of shards ts)
            ∙ ap (λ x. cond (same_place q x) 1 0 + count_by (λ l. same_place q (of_link l)) (links_of shards ts)) (same t e)

        by : (o : Option Entry) (b : Bool) → t.extends ≡ b → count_by (λ l. same_place q (of_link l)) (links_of shards ts) ≤ 1 → (q ≡ of_transfer t) ⊎ (same_place q (of_transfer t) ≡ false)
            → count_by (λ l. same_place q (of_link l)) (link_of t o (links_of shards ts)) ≤ 1
        by None b is rest which = rest
        by (Some e) true is rest which = subst (λ b. count_by (λ l. same_place q (of_link l)) (if b then links_of shards ts else record { frame = e.frame; source = t.source; target = t.target } ∷ links_of shards ts) ≤ 1) (sym is) rest
        by (Some e) false is rest (inl one) =
            let none = none_of q ts (λ i within. ap (λ p. same_place p (of_transfer (get_or ts i no_transfer))) one ∙ apart_back (of_transfer (get_or ts i no_transfer)) (of_transfer t) (apart 0 (suc i) (omega arith) (omega (arith, within)))) in
            let here : cond (same_place q (of_transfer t)) 1 0 ≤ 1 = at_most (same_place q (of_transfer t)) in
            let whole = single e in
            subst (λ b. count_by (λ l. same_place q (of_link l)) (if b then links_of shards ts else record { frame = e.frame; source = t.source; target = t.target } ∷ links_of shards ts) ≤ 1) (sym is) (omega (arith, whole, here, none))
          where
            at_most : (b : Bool) → cond b 1 0 ≤ 1
            at_most true = omega arith
            at_most false = omega arith
        by (Some e) false is rest (inr differ) =
            let whole = single e ∙ ap (λ b. cond b 1 0 + count_by (λ l. same_place q (of_link l)) (links_of shards ts)) differ in
            subst (λ b. count_by (λ l. same_place q (of_link l)) (if b then links_of shards ts else record { frame = e.frame; source = t.source; target = t.target } ∷ links_of shards ts) ≤ 1) (sym is) (omega (arith, whole, rest))

-- paired transfers are apart
pairs_apart : (from to : ℕ) (ts : List Transfer) → ArePaired from to ts → (i j : ℕ) → i < j → j < length ts
    → (same_place (get_or ts j no_transfer).source (get_or ts i no_transfer).source ≡ false) × (same_place (get_or ts j no_transfer).target (get_or ts i no_transfer).target ≡ false)
pairs_apart from to [] paired i j less within = absurd (omega (arith, within))
pairs_apart from to (t ∷ ts) paired i zero less within = absurd (omega (arith, less))
pairs_apart from to (t ∷ ts) paired zero (suc j) less within = paired.2 j no_transfer (omega (arith, within))
pairs_apart from to (t ∷ ts) paired (suc i) (suc j) less within = pairs_apart from to ts paired.3 i j (omega (arith, less)) (omega (arith, within))

module _ (shards : Shards) (trees : List Shape) (sound : AreSound shards trees) (rights : Rights) (ts : List Transfer) (planned : ArePlanned (limits_in shards trees) ts) (ready : All (IsReady (holdings_in shards trees) rights) ts) where
  source_in : (i : ℕ) → i < length ts → IsWithin (limits_in shards trees) (get_or ts i no_transfer).source
  source_in i within = let w = planned.within i no_transfer within in record { space = w.source_space; page = w.source_page }

  target_in : (i : ℕ) → i < length ts → IsWithin (limits_in shards trees) (get_or ts i no_transfer).target
  target_in i within = let w = planned.within i no_transfer within in record { space = w.target_space; page = w.target_page }

  pub linkable : AreLinkable trees (links_of shards ts)
  linkable = record {
    once = λ q. once_of shards (λ t. t.target) (λ l. l.target) (λ t e. refl) q ts (λ i j less within. (pairs_apart planned.from planned.to ts planned.paired i j less within).1);
    frames = links_all shards (λ l. l.frame < length trees) ts (λ i e within going stood. sound.kept.fits.frame (get_or ts i no_transfer).source e (source_in i within) stood);
    sources = links_all shards (λ l. is_listed trees l.frame l.source ≡ true) ts (λ i e within going stood. sound.kept.fits.listed (get_or ts i no_transfer).source e (source_in i within) stood);
    targets = links_all shards (λ l. (f : ℕ) → is_listed trees f l.target ≡ false) ts
        (λ i e within going stood f. unlisted (limits_in shards trees) shards trees (get_or ts i no_transfer).target (target_in i within) (ap is_some ((ready i no_transfer within).free going)) sound.pruned f);
  }

  -- nothing is mapped yet
  pub none_ahead : (ahead : List Shape) → AreLinked (links_of shards ts) trees ahead → AreAhead shards (limits_in shards trees) (holdings_in shards trees) rights ts 0 shards ahead
  none_ahead ahead linked = record {
    trees = trees;
    from = planned.from;
    to = planned.to;
    differ = planned.differ;
    are = none_mapped (limits_in shards trees) (holdings_in shards trees) rights planned.from planned.to planned.differ ts shards trees sound refl refl planned.paired;
    linked = linked;
    layout = refl;
  }

-- all are mapped
module _ (first : Shards) (limits : Limits) (h : Holdings) (rights : Rights) (ts : List Transfer) (i : ℕ) (shards : Shards) (ahead : List Shape) (past : length ts ≤ i) (so_far : AreAhead first limits h rights ts i shards ahead) where
  at_end : AreLinked [] so_far.trees ahead
  at_end = subst (λ xs. AreLinked (links_of first xs) so_far.trees ahead) (drop_all i ts past) so_far.linked

  pub all_left : holdings_in shards ahead ≡ map_transfers h (record { kind = Map; rights = rights; pairs = [] }) ts h
  all_left = ahead_holdings shards so_far.trees ahead at_end ∙ all_mapped limits h rights so_far.from so_far.to so_far.differ ts i shards so_far.trees past so_far.are

  pub all_sound : AreSound shards ahead
  all_sound = ahead_sound shards so_far.trees ahead at_end so_far.are.sound

  pub all_limits : limits_in shards ahead ≡ limits
  all_limits = limits_same shards so_far.trees ahead at_end ∙ so_far.are.same_limits
